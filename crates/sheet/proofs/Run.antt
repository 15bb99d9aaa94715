-- The program's run, chunk by chunk.
use Rattle.std.proofs.Common.{ℕ, ◌+◌, ◌-◌, ◌≤◌, ◌<◌, ◌≡◌, List, [], ◌∷◌, ◌++◌, refl, sym, ap, ◌∙◌, arith, append_assoc, append-nil}
use Rattle.std.proofs.Common.{length, length-append}
use Rattle.std.specs.Prelude.{Option, Some, Result}
use Rattle.std.specs.Result.{IsErrAnd}
use Rattle.std.specs.Io.KnownBytes.{Appends, Consumes}
use Rattle.std.proofs.KnownBytes.{Appends-nil, Appends-trans, Consumes-nil, Consumes-trans}
use Rattle.std.proofs.lemmas.Result.{err_from_is_err_and}
use Rattle.sheet_line.specs.Text.{newline}
use Rattle.sheet.specs.declared.Sheet.{Sheet}
use Rattle.sheet.specs.declared.Stopped.{Stopped}
use Rattle.sheet.specs.declared.Failure.{Failure}
use Rattle.sheet.specs.declared.Failure.TheVariants.{Unwritten}
use Rattle.sheet.specs.Lines.{Lines, after, lines_from}
use Rattle.sheet.specs.Waiting.{Holds, Took}
use Rattle.sheet.specs.Steps.{newlines}
use Rattle.sheet.specs.Sent.{Sent, Short}
use Rattle.sheet.specs.Run.{last_answer, sheet_text, ShortIn, Ends}
use Rattle.sheet.proofs.Search.{newlines-none}
use Rattle.sheet.proofs.Sent.{short_later}
use Rattle.sheet.proofs.Cut.{lines_append, lines_none}

-- What is known between chunks: beside the lines of the bytes that were read.
pub record Kept (c₀ c : Option (List ℕ)) (sheet : Sheet) (s : Lines) : Type 0 where
  pub none : sheet.answers.text ≡ []
  pub took : Took sheet s
  pub sent : Appends c₀ c s.printed

pub record Running (r₀ r c₀ c : Option (List ℕ)) (sheet : Sheet) (turns : ℕ) : Type 0 where
  pub bytes : List ℕ
  pub read : Consumes r₀ r bytes
  pub many : turns ≤ length bytes
  pub kept : Kept c₀ c sheet (lines_from 1 [] bytes)

pub first : (r c : Option (List ℕ)) (sheet : Sheet) → (sheet.begun ≡ Some []) × (sheet.answers.line ≡ 1) × (sheet.answers.text ≡ [])
    → Running r r c c sheet 0
first r c sheet e = record {
  bytes = [];
  read = Consumes-nil r;
  many = omega arith;
  kept = rw (lines_none 1 []) (record { none = e.2; took = record { line = e.1; begun = rw e.0 refl }; sent = Appends-nil c });
}

module _ (a b c : Option (List ℕ)) where
  -- Some bytes were written, and later a write fails.
  short_further : (xs ys : List ℕ) {line last : ℕ} → Appends a b xs → Short b c ys line last → Short a c (xs ++ ys) line last
  short_further xs ys p t = record {
    front = xs ++ t.front;
    unsent = t.unsent;
    taken = Appends-trans a b c xs t.front p t.taken;
    rest = append_assoc xs t.front t.unsent ∙ ap (λ l. xs ++ l) t.rest;
    whole = t.whole;
  }

  -- All that waited was written.
  all_sent : (bytes waits : List ℕ) → Sent a b [] bytes waits → Appends b c waits → Appends a c bytes
  all_sent bytes waits s p = rw s.rest at (Appends-trans a b c s.written waits s.taken p)

-- The last read gives nothing.
pub none_read : (a b c : Option (List ℕ)) (bytes more : List ℕ) → Consumes a b bytes → Consumes b c more → more ≡ [] → Consumes a c bytes
none_read a b c bytes more p q e = rw (e, append-nil bytes) at (Consumes-trans a b c bytes more p q)

module _ {r₀ r c₀ c : Option (List ℕ)} {sheet : Sheet} {turns : ℕ} (i : Running r₀ r c₀ c sheet turns) where
  abbrev so_far : Lines
  so_far = lines_from 1 [] i.bytes

  pub whole_line : (last : ℕ) → last ≡ sheet.answers.line - 1 - newlines [] → last ≡ so_far.line - 1
  whole_line last e = omega (arith, e, newlines-none, i.kept.took.line)

  -- More bytes are read.
  module _ (more : List ℕ) where
    abbrev later : Lines
    later = lines_from sheet.answers.line so_far.begun more

    lines_more : lines_from 1 [] (i.bytes ++ more) ≡ after so_far.printed later
    lines_more = lines_append 1 [] i.bytes more ∙ ap (λ n. after so_far.printed (lines_from n so_far.begun more)) (sym i.kept.took.line)

  -- A write fails among them.
  cut_in : (more others text : List ℕ) {c' : Option (List ℕ)} {last : ℕ} → text ≡ []
      → ((bytes : List ℕ) → Holds sheet.begun bytes → ShortIn c c' sheet.answers.line bytes text more last)
      → ShortIn c₀ c' 1 [] [] ((i.bytes ++ more) ++ others) last
  cut_in more others text none cut =
      let x = cut so_far.begun i.kept.took.begun in
      record {
        taken = i.bytes ++ x.taken;
        later = x.later ++ others;
        split =
            append_assoc i.bytes x.taken (x.later ++ others)
            ∙ ap (λ l. i.bytes ++ l) (sym (append_assoc x.taken x.later others) ∙ ap (λ l. l ++ others) x.split)
            ∙ sym (append_assoc i.bytes more others);
        short = rw (lines_more x.taken) (short_further c₀ c _ so_far.printed _ i.kept.sent (rw none at x.short));
      }

  pub cut_among : (more : List ℕ) {c' : Option (List ℕ)} {last : ℕ}
      → ((bytes : List ℕ) → Holds sheet.begun bytes → ShortIn c c' sheet.answers.line bytes sheet.answers.text more last)
      → ShortIn c₀ c' 1 [] [] ((i.bytes ++ more) ++ newline ∷ []) last
  cut_among more cut = cut_in more (newline ∷ []) sheet.answers.text i.kept.none cut

  pub cut_after : (more : List ℕ) {c' c'' : Option (List ℕ)} (now : Sheet) {last : ℕ}
      → ((bytes : List ℕ) → Holds sheet.begun bytes → Took now (lines_from sheet.answers.line bytes more))
      → ((bytes : List ℕ) → Holds sheet.begun bytes
      → Sent c c' sheet.answers.text (lines_from sheet.answers.line bytes more).printed now.answers.text)
      → Short c' c'' now.answers.text now.answers.line last → ShortIn c₀ c'' 1 [] [] ((i.bytes ++ more) ++ newline ∷ []) last
  cut_after more now took sent x =
      let o = i.kept.took.begun in
      record {
        taken = i.bytes ++ more;
        later = newline ∷ [];
        split = refl;
        short =
            rw (lines_more more, ← (took so_far.begun o).line)
            (short_further c₀ c _ so_far.printed _ i.kept.sent (short_later (rw i.kept.none at (sent so_far.begun o)) x));
      }

  pub goes_on : (more : List ℕ) {c' c'' r' : Option (List ℕ)} (now end : Sheet) → Consumes r r' more → 0 < length more
      → ((bytes : List ℕ) → Holds sheet.begun bytes → Took now (lines_from sheet.answers.line bytes more))
      → ((bytes : List ℕ) → Holds sheet.begun bytes
      → Sent c c' sheet.answers.text (lines_from sheet.answers.line bytes more).printed now.answers.text)
      → Appends c' c'' now.answers.text → end.answers.text ≡ [] → end.answers.line ≡ now.answers.line → end.begun ≡ now.begun
      → Running r₀ r' c₀ c'' end (turns + 1)
  goes_on more {c'} {c''} now end p few took sent q none line begun =
      let o = i.kept.took.begun in
      let t = took so_far.begun o in
      record {
        bytes = i.bytes ++ more;
        read = Consumes-trans r₀ r _ i.bytes more i.read p;
        many = omega (arith, i.many, few, length-append i.bytes more);
        kept =
            rw (lines_more more)
            (record {
              none = none;
              took = record { line = line ∙ t.line; begun = rw begun t.begun };
              sent =
                  Appends-trans c₀ c _ so_far.printed _ i.kept.sent (all_sent c c' c'' (later more).printed _ (rw i.kept.none at (sent so_far.begun o)) q);
            });
      }

  -- The end of the bytes.
  pub all_answered : (c' : Option (List ℕ))
      → ((bytes : List ℕ) → Holds sheet.begun bytes → Appends c c' (last_answer sheet.answers.line bytes)) → Appends c₀ c' (sheet_text i.bytes)
  all_answered c' sent =
      rw (← i.kept.took.line) (Appends-trans c₀ c _ so_far.printed _ i.kept.sent (sent so_far.begun i.kept.took.begun))

  pub cut_last : {c' : Option (List ℕ)} {last : ℕ}
      → ((bytes : List ℕ) → Holds sheet.begun bytes → ShortIn c c' sheet.answers.line bytes [] (newline ∷ []) last)
      → ShortIn c₀ c' 1 [] [] (i.bytes ++ newline ∷ []) last
  cut_last cut = rw (append-nil (i.bytes ++ newline ∷ [])) at (cut_in (newline ∷ []) [] [] refl cut)

-- A write failed, which `?` hands on.
pub ended_on : {A : Type 0} {old new : Option (List ℕ)} (bytes : List ℕ) (left : Option (List ℕ)) (r : Result A Failure) (s : Stopped)
    → IsErrAnd r (λ f. f ≡ Unwritten s) → ShortIn old new 1 [] [] (bytes ++ newline ∷ []) s.whole → Ends r bytes left old new
ended_on bytes left r s h q = let e = err_from_is_err_and r h in rw (e.1, e.2) q
