-- What was handed over, step by step.
use Rattle.std.proofs.Common.{ℕ, ◌≡◌, List, [], ◌++◌, sym, ap, ◌∙◌, append_assoc, append-nil, take, drop, take-append-drop}
use Rattle.std.specs.Prelude.{Option, Result}
use Rattle.std.specs.Result.{IsErrAnd, IfErr}
use Rattle.std.specs.Io.KnownBytes.{Appends}
use Rattle.std.proofs.KnownBytes.{Appends-nil, Appends-trans}
use Rattle.std.proofs.lemmas.Result.{err_from_is_err_and}
use Rattle.sheet.specs.Sent.{Sent, Short}

pub sent_none : (a : Option (List ℕ)) (xs : List ℕ) → Sent a a xs [] xs
sent_none a xs = record { written = []; taken = Appends-nil a; rest = sym (append-nil xs) }

module _ {a b c : Option (List ℕ)} {xs ys more : List ℕ} (s : Sent a b xs more ys) where
  pub sent_more : {bytes zs : List ℕ} → Sent b c ys bytes zs → Sent a c xs (more ++ bytes) zs
  sent_more {bytes} {zs} t = record {
    written = s.written ++ t.written;
    taken = Appends-trans a b c s.written t.written s.taken t.taken;
    rest =
        append_assoc s.written t.written zs
        ∙ ap (λ l. s.written ++ l) t.rest
        ∙ sym (append_assoc s.written ys bytes)
        ∙ ap (λ l. l ++ bytes) s.rest
        ∙ append_assoc xs more bytes;
  }

  -- A write fails later.
  pub short_later : {line last : ℕ} → Short b c ys line last → Short a c (xs ++ more) line last
  short_later t = record {
    front = s.written ++ t.front;
    unsent = t.unsent;
    taken = Appends-trans a b c s.written t.front s.taken t.taken;
    rest = append_assoc s.written t.front t.unsent ∙ ap (λ l. s.written ++ l) t.rest ∙ s.rest;
    whole = t.whole;
  }

-- A text that is handed over: the writer took the front, and the rest is left.
pub record Handing (old new : Option (List ℕ)) (text rest : List ℕ) : Type 0 where
  pub front : List ℕ
  pub joined : front ++ rest ≡ text
  pub taken : Appends old new front

pub more_handed : {a b c : Option (List ℕ)} {text rest left : List ℕ} (h : Handing a b text rest) (n : ℕ) → Appends b c (take n rest)
    → left ≡ drop n rest → Handing a c text left
more_handed {a} {b} {c} {text} {rest} h n p e = rw e (record {
  front = h.front ++ take n rest;
  joined = append_assoc h.front (take n rest) (drop n rest) ∙ ap (λ l. h.front ++ l) (take-append-drop n rest) ∙ h.joined;
  taken = Appends-trans a b c h.front (take n rest) h.taken p;
})

-- What `?` hands on.
pub handed_on : {A E : Type 0} {d : E} (P : E → Type 0) (r : Result A E) → IsErrAnd r (λ y. y ≡ d) → P d → IfErr r P
handed_on P r h q = let e = err_from_is_err_and r h in rw (e.1, e.2) q
