-- A line that is read, called and printed is answered as the sheet says, whatever the program's buffers held.
use Prim.Native.Nat.{ℕ, zero, suc, ◌≤◌, ◌<◌}
use native.Mathlib.Omega.{arith}
use mathlib.Core.Path.{◌≡◌, refl, sym, ap, ap₂, subst, ◌∙◌}
use mathlib.Core.List.{List, [], ◌∷◌, ◌++◌, append-nil}
use mathlib.Core.Option.{Option, none, some}
use Rattle.std.specs.Prelude as code
use mathlib.Core.Bool.{Bool, true, false, cond}
use lib.Dec.{leb}
use lib.ListN.{length, drop, replicate, length-append, length-replicate}
use lib.Seq.{take-append-le}
use lib.IntN.{ℤ, pos}
use borrow.Author.Tests.{le-leb}
use Rattle.shape.specs.Shape.{max_rank, count, counted, shape_of}
use Rattle.shape.proofs.Made.{made_counted}
use Rattle.meaning.specs.Array.{Operand, Array, array_of, good_form, build}
use Rattle.meaning.specs.Refusal.{precedence, winner}
use Rattle.meaning.specs.Primitives.{Meaning}
use Rattle.meaning.specs.Reply.{Primitive, Reply, primitives, named, refusals, settle, meaning_of, reply}
use Rattle.meaning.proofs.Arrays.{Whole, build-lengths, build-whole}
use Rattle.sheet_line.specs.Numbers.{and_then, numbers}
use Rattle.sheet_line.specs.declared.Call as Read
use Rattle.sheet_line.specs.Call.{max_held, max_line, Reader, give, fail, ◌then◌, natural, many, operand, head, Call, call, all_read, call_of, line_call}
use Rattle.sheet_line.specs.Call.{read_of, left_of, right_of, front, room}
use Rattle.sheet_line.proofs.Calls.{too_long}
use Rattle.sheet_line.proofs.Says.{many-length}
use Rattle.sheet_line.proofs.Options.{none-some, some_inj, passed, if_some}
use Rattle.sheet_answer.specs.Answer.{ok_line, bad_line, result_in, reply_line}
use Rattle.sheet_answer.specs.Sheet.{operand_of, reply_to, answer_to, sheet_answer}

-- The operands of a good line are whole; their elements stand behind the test of their count.
elements-whole : (p : Reader ℤ) (t : Bool) (ns : List ℕ) (ys : List ℤ) (a : Array) (rest : List ℤ)
    → cond t (many p (count ns) then λ xs. give (record { lengths = ns; elements = xs })) fail ys ≡ some (a, rest) → Whole a
elements-whole p false ns ys a rest e = none-some e
elements-whole p true ns ys a rest e =
    let all = passed (many p (count ns) ys) _ (a, rest) e in
    let filled = many-length p (count ns) ys all.found.0 all.found.1 all.is in
    subst Whole (ap (λ t. t.0) (some_inj all.on)) filled

operand-whole : (limit : ℕ) (zs : List ℤ) (a : Array) (rest : List ℤ) → operand limit zs ≡ some (a, rest) → Whole a
unfolding operand
operand-whole limit zs a rest e =
    let one = passed (natural max_rank zs) _ (a, rest) e in
    let two = passed (many (natural max_held) one.found.0 one.found.1) _ (a, rest) one.on in
    elements-whole _ (leb (count two.found.0) limit) two.found.0 two.found.1 a rest two.on

abbrev WholeCall : Call → Type 0
WholeCall c = Whole c.left × Whole c.right

call-whole : (a b : ℕ) (zs : List ℤ) (c : Call) (rest : List ℤ) → call a b zs ≡ some (c, rest) → WholeCall c
unfolding call
call-whole a b zs c rest e =
    let one = passed (head zs) _ (c, rest) e in
    let two = passed (operand a one.found.1) _ (c, rest) one.on in
    let three = passed (operand b two.found.1) _ (c, rest) two.on in
    subst WholeCall (ap (λ t. t.0) (some_inj three.on)) (
      operand-whole a one.found.1 two.found.0 two.found.1 two.is,
      operand-whole b two.found.1 three.found.0 three.found.1 three.is,
    )

line-whole : (a b : ℕ) (bytes : List ℕ) (c : Call) → line_call a b bytes ≡ some c → WholeCall c
unfolding line_call call_of
line-whole a b bytes c e =
    let short = if_some (leb (length bytes) max_line) (and_then (numbers bytes) (call_of a b)) c e in
    let one = passed (numbers bytes) (call_of a b) c short.1 in
    let two = passed (call a b one.found) all_read c one.on in
    subst WholeCall (all two.found two.on) (call-whole a b one.found two.found.0 two.found.1 two.is)
  where
    all : (t : Call × List ℤ) → all_read t ≡ some c → t.0 ≡ c
    all (d, []) q = some_inj q
    all (d, z ∷ zs) q = none-some q

-- Two operands that no call tells apart: they hold the same array, and both are of good form or neither is.
record Alike (L L' : Operand) : Type 0 where
  array : array_of L ≡ array_of L'
  form : good_form L ≡ good_form L'

-- An operand of some lengths.
abbrev on : List ℕ → List ℤ → Operand
on ns b = record { shape = shape_of ns; buffer = b }

-- What follows the elements in a buffer does not count.
module _ (ns : List ℕ) (xs ys zs : List ℤ) (w : length xs ≡ count ns) where
  enough : count (counted (shape_of ns)) ≤ length xs
  enough = rw (made_counted ns) (omega (arith, w))

  has_room : (ts : List ℤ) → leb (count (counted (shape_of ns))) (length (xs ++ ts)) ≡ true
  has_room ts = le-leb (count (counted (shape_of ns))) (length (xs ++ ts)) (omega (arith, enough, length-append xs ts))

  alike : Alike (on ns (xs ++ ys)) (on ns (xs ++ zs))
  unfolding good_form
  alike =
      let n = count (counted (shape_of ns)) in
      let same = take-append-le n xs ys enough ∙ sym (take-append-le n xs zs enough) in
      record {
        array = ap (λ l. record { lengths = counted (shape_of ns); elements = l }) same;
        form = rw (has_room ys, has_room zs);
      }

-- An operand that was read to the front of a buffer is like the line's own.
held-alike : (a : Array) (b : List ℤ) → Whole a → Alike (on a.lengths (front a.elements b)) (operand_of a)
held-alike a b w = rw (append-nil a.elements) at (alike a.lengths a.elements (drop (length a.elements) b) [] w)

-- A call looks at an operand's array and whether it is of good form.
module _ (n G K : ℤ) {L L' R R' : Operand} (l : Alike L L') (r : Alike R R') where
  same-refusals : (p : Primitive) (m : Meaning) (space : ℕ) → refusals p G L R m space ≡ refusals p G L' R' m space
  unfolding refusals
  same-refusals p m space = rw (l.form, r.form)

  same-reply : (out : List ℤ) → reply n G K L R out ≡ reply n G K L' R' out
  unfolding reply
  same-reply out =
      let p = named n primitives in
      let m = meaning_of n G K L' R' in
      let wins = winner (precedence p.number) in
      ap₂ (λ a b. let x = p.meaning G K a b in settle (wins (refusals p G L R x (length out))) x out) l.array r.array
      ∙ ap (λ rules. settle (wins rules) m out) (same-refusals p m (length out))

-- The line that is printed for a reply does not depend on what the output buffer held.
abbrev line_of : ℕ → Reply → List ℕ
line_of line y = reply_line line y.number (result_in y.shape y.out)

alike-line : (line : ℕ) {o o' : Operand} → Alike o o' → reply_line line 0 o ≡ reply_line line 0 o'
unfolding reply_line
alike-line line a = ap₂ (λ good x. cond good (ok_line line x) []) a.form a.array

settled-line : (line w : ℕ) (m : Meaning) (out out' : List ℤ) → line_of line (settle w m out) ≡ line_of line (settle w m out')
unfolding settle reply_line
settled-line line zero m out out' =
    let n = count m.lengths in
    let filled = build-whole m.lengths m.element ∙ ap count (build-lengths m.lengths m.element) in
    alike-line line (alike m.lengths (build m.lengths m.element).elements (drop n out) (drop n out') filled)
settled-line line (suc n) m out out' = refl

reply-line : (line : ℕ) (n G K : ℤ) (L R : Operand) (out out' : List ℤ) → length out ≡ length out'
    → line_of line (reply n G K L R out) ≡ line_of line (reply n G K L R out')
unfolding reply
reply-line line n G K L R out out' e =
    let p = named n primitives in
    let m = meaning_of n G K L R in
    let wins = winner (precedence p.number) in
    settled-line line (wins (refusals p G L R m (length out))) m out out' ∙ ap (λ k. line_of line (settle (wins (refusals p G L R m k)) m out')) e

-- What is read of a call, and the line that is printed for it, with the operands' elements in l and r.
abbrev read_call : Call → Read.Call
read_call c = record {
  primitive = c.head.primitive;
  origin = c.head.origin;
  k = c.head.k;
  left = shape_of c.left.lengths;
  right = shape_of c.right.lengths;
}

abbrev line_for : ℕ → List ℤ → Read.Call → List ℤ → List ℤ → List ℕ
line_for line out a l r =
    line_of line
    (reply a.primitive a.origin a.k (record { shape = a.left; buffer = l }) (record { shape = a.right; buffer = r }) out)

-- It is the answer.
module _ (line : ℕ) (bytes : List ℕ) (l r out : List ℤ) (hl : length l ≡ max_held) (hr : length r ≡ max_held) (ho : length out ≡ max_held) where
  call_line : (c : Call) → line_call max_held max_held bytes ≡ some c
      → line_for line out (read_call c) (front c.left.elements l) (front c.right.elements r) ≡ answer_to line (some c)
  unfolding answer_to reply_to
  call_line c e =
      let w = line-whole max_held max_held bytes c e in
      let h = c.head in
      ap (line_of line) (same-reply h.primitive h.origin h.k (held-alike c.left l w.0) (held-alike c.right r w.1) out)
      ∙ reply-line line h.primitive h.origin h.k (operand_of c.left) (operand_of c.right) out (replicate max_held (pos 0))
      (ho ∙ sym (length-replicate max_held (pos 0)))

  held-call : line_call (room l) (room r) bytes ≡ line_call max_held max_held bytes
  held-call = rw (hl, hr)

  pub bad-answer : code.None ≡ read_of (line_call (room l) (room r) bytes) → sheet_answer line bytes ≡ bad_line line
  unfolding sheet_answer answer_to
  bad-answer e = ap (answer_to line) (sym held-call) ∙ by-case (line_call (room l) (room r) bytes) e
    where
      by-case : (o : Option Call) → code.None ≡ read_of o → answer_to line o ≡ bad_line line
      by-case none q = refl
      by-case (some c) q = absurd (let z : ◌≡◌ {A = ℕ} 0 1 = cc in omega arith)

  pub good-answer : (a : Read.Call) → code.Some a ≡ read_of (line_call (room l) (room r) bytes) → (l' r' : List ℤ)
      → l' ≡ front (left_of (line_call (room l) (room r) bytes)) l → r' ≡ front (right_of (line_call (room l) (room r) bytes)) r
      → line_for line out a l' r' ≡ sheet_answer line bytes
  unfolding sheet_answer
  good-answer a e l' r' p q = by-case (line_call (room l) (room r) bytes) (sym held-call) e p q ∙ ap (answer_to line) held-call
    where
      by-case : (o : Option Call) → line_call max_held max_held bytes ≡ o → code.Some a ≡ read_of o → l' ≡ front (left_of o) l → r' ≡ front (right_of o) r
          → line_for line out a l' r' ≡ answer_to line o
      by-case none f s x y = absurd (let z : ◌≡◌ {A = ℕ} 0 1 = cc in omega arith)
      by-case (some c) f s x y = let same : a ≡ read_call c = cc in (λ i. line_for line out (same i) (x i) (y i)) ∙ call_line c f

-- What is printed for a line that was too long to be held.
pub long-answer : (line : ℕ) (bytes : List ℕ) → max_line < length bytes → sheet_answer line bytes ≡ bad_line line
unfolding sheet_answer answer_to
long-answer line bytes h = rw (too_long max_held max_held bytes h)
