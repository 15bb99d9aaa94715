-- A chunk cut into lines.
use Rattle.std.proofs.Common.{ℕ, suc, ◌+◌, ◌≤◌, ◌<◌, ◌≡◌, List, [], ◌∷◌, ◌++◌, Bool, true, false, cond, refl, sym, ap, ◌∙◌, arith, append_assoc}
use Rattle.std.proofs.Common.{append-nil, add-one, length, get_or, take, drop, take-append-drop, length-take, drop-cons}
use Rattle.std.specs.Prelude.{◌==◌, eqb, nat_lt, Option, Some, None}
use Rattle.std.specs.List.{position, position_or_len}
use Rattle.std.proofs.lemmas.List.Sums.{fails_before_first}
use Rattle.std.proofs.lemmas.List.Quantifiers.{position-Some}
use Rattle.std.proofs.Math.Seq.{get_or-take}
use Rattle.std.proofs.lemmas.Bool.Decides.{nat_tests}
use borrow.Author.Tests.{eqb-true}
use Rattle.sheet_line.specs.Text.{newline}
use Rattle.sheet_answer.specs.Sheet.{sheet_answer}
use Rattle.sheet.specs.declared.Sheet.{Sheet}
use Rattle.sheet.specs.Lines.{next, Lines, after, lines_from}
use Rattle.sheet.specs.Waiting.{Holds, Took}
use Rattle.sheet.specs.Sent.{Sent, Short}
use Rattle.sheet.specs.Run.{ShortIn}
use Rattle.sheet.proofs.Sent.{sent_none, sent_more, short_later}

-- The lines of some bytes and of those after them.
abbrev on : Lines → List ℕ → Lines
on s bytes = after s.printed (lines_from s.line s.begun bytes)

after_after : (xs ys : List ℕ) (s : Lines) → after xs (after ys s) ≡ after (xs ++ ys) s
after_after xs ys s = ap (λ l. record { printed = l; line = s.line; begun = s.begun }) (sym (append_assoc xs ys s.printed))

abbrev Cuts : ℕ → List ℕ → List ℕ → List ℕ → Type 0
Cuts n begun xs ys = lines_from n begun (xs ++ ys) ≡ on (lines_from n begun xs) ys

first_case : (n : ℕ) (begun bs ys : List ℕ) (b : ℕ) (t : Bool) → Cuts (next n) [] bs ys → Cuts n (begun ++ b ∷ []) bs ys
    → cond t (after (sheet_answer n begun) (lines_from (next n) [] (bs ++ ys))) (lines_from n (begun ++ b ∷ []) (bs ++ ys))
    ≡ on (cond t (after (sheet_answer n begun) (lines_from (next n) [] bs)) (lines_from n (begun ++ b ∷ []) bs)) ys
first_case n begun bs ys b true ended going =
    let s : Lines = lines_from (next n) [] bs in
    ap (after (sheet_answer n begun)) ended ∙ after_after (sheet_answer n begun) s.printed (lines_from s.line s.begun ys)
first_case n begun bs ys b false ended going = going

pub lines_append : (n : ℕ) (begun xs ys : List ℕ) → Cuts n begun xs ys
unfolding lines_from
lines_append n begun [] ys = refl
lines_append n begun (b ∷ bs) ys =
    first_case n begun bs ys b (eqb b newline) (lines_append (next n) [] bs ys) (lines_append n (begun ++ b ∷ []) bs ys)

-- No byte of a run is a newline.
abbrev pub Free : List ℕ → Type 0
Free run = (k : ℕ) → k < length run → (get_or run k 0 == newline) ≡ false

lines_run : (n : ℕ) (begun run : List ℕ) → Free run → lines_from n begun run ≡ record { printed = []; line = n; begun = begun ++ run }
unfolding lines_from
lines_run n begun [] f = rw (append-nil begun)
lines_run n begun (b ∷ bs) f =
    rw (f 0 (omega arith))
    (lines_run n (begun ++ b ∷ []) bs (λ k p. f (suc k) (omega arith))
    ∙ ap (λ l. record { printed = []; line = n; begun = l }) (append_assoc begun (b ∷ []) bs))

-- Bytes after which no newline comes, and a run without one.
pub run_on : (n : ℕ) (begun front run : List ℕ) → Free run → lines_from n begun (front ++ run)
    ≡ (let s : Lines = lines_from n begun front in record { printed = s.printed; line = s.line; begun = s.begun ++ run })
run_on n begun front run f =
    let s : Lines = lines_from n begun front in
    lines_append n begun front run
    ∙ ap (after s.printed) (lines_run s.line s.begun run f)
    ∙ ap (λ l. record { printed = l; line = s.line; begun = s.begun ++ run }) (append-nil s.printed)

pub lines_end : (n : ℕ) (begun : List ℕ) → lines_from n begun (newline ∷ []) ≡ record { printed = sheet_answer n begun; line = next n; begun = [] }
unfolding lines_from
lines_end n begun = ap (λ l. record { printed = l; line = next n; begun = [] }) (append-nil (sheet_answer n begun))

pub lines_none : (n : ℕ) (begun : List ℕ) → lines_from n begun [] ≡ record { printed = []; line = n; begun = begun }
unfolding lines_from
lines_none n begun = refl

-- A whole line.
lines_one : (n : ℕ) (begun run : List ℕ) → Free run
    → lines_from n begun (run ++ newline ∷ []) ≡ record { printed = sheet_answer n (begun ++ run); line = next n; begun = [] }
lines_one n begun run f =
    lines_append n begun run (newline ∷ []) ∙ ap (λ s. on s (newline ∷ [])) (lines_run n begun run f) ∙ lines_end n (begun ++ run)

-- What the search for a newline finds.
module _ (bytes : List ℕ) where
  all_free : position (λ b. b == newline) bytes ≡ None → Free bytes
  all_free e k h =
      let none : length bytes ≤ position_or_len (λ b. b == newline) bytes = past _ _ e in
      fails_before_first (λ b. b == newline) bytes k 0 (omega arith)
    where
      past : (n m : ℕ) → cond (nat_lt n m) (Some n) None ≡ None → m ≤ n
      past n m e = grind (arith, nat_tests)

  module _ (n : ℕ) (e : position (λ b. b == newline) bytes ≡ Some n) where
    front_free : Free (take n bytes)
    front_free k h =
        let found = position-Some (λ b. b == newline) bytes n 0 e in
        rw (get_or-take n bytes k 0 (omega (arith, length-take n bytes))) (found.2 k (omega (arith, length-take n bytes)))

    cut_here : bytes ≡ take n bytes ++ newline ∷ drop (n + 1) bytes
    cut_here =
        let found = position-Some (λ b. b == newline) bytes n 0 e in
        sym (take-append-drop n bytes)
        ∙ ap (λ l. take n bytes ++ l) (rw (drop-cons bytes n 0 found.0, eqb-true _ newline found.1, add-one) refl)

-- What was taken of a chunk up to a place.
pub record Midway (start now : Sheet) (old new : Option (List ℕ)) (s : Lines) : Type 0 where
  pub took : Took now s
  pub sent : Sent old new start.answers.text s.printed now.answers.text

-- The chunk is its front, which was taken, and the rest.
pub record Going (start now : Sheet) (old new : Option (List ℕ)) (chunk rest : List ℕ) : Type 0 where
  pub front : List ℕ
  pub joined : front ++ rest ≡ chunk
  pub midway : (bytes : List ℕ) → Holds start.begun bytes → Midway start now old new (lines_from start.answers.line bytes front)

pub none_taken : (start : Sheet) (a : Option (List ℕ)) (chunk : List ℕ) → Going start start a a chunk chunk
none_taken start a chunk = record {
  front = [];
  joined = refl;
  midway = λ bytes o.
      rw (lines_none start.answers.line bytes)
      (record { took = record { line = refl; begun = o }; sent = sent_none a start.answers.text });
}

module _ {start now : Sheet} {old new : Option (List ℕ)} {chunk rest : List ℕ} (g : Going start now old new chunk rest) where
  abbrev so_far : List ℕ → Lines
  so_far bytes = lines_from start.answers.line bytes g.front

  -- A write fails before the next line is answered.
  pub chunk_short : {new' : Option (List ℕ)} {last : ℕ} → Short new new' now.answers.text now.answers.line last
      → (bytes : List ℕ) → Holds start.begun bytes → ShortIn old new' start.answers.line bytes start.answers.text chunk last
  chunk_short s bytes o =
      let m = g.midway bytes o in
      record { taken = g.front; later = rest; split = g.joined; short = short_later m.sent (rw (← m.took.line) s) }

  -- A line ends.
  pub line_taken : {new' : Option (List ℕ)} (n : ℕ) (run left : List ℕ) (on : Sheet) → position (λ b. b == newline) rest ≡ Some n
      → run ≡ take n rest → left ≡ drop (n + 1) rest
      → (on.begun ≡ Some []) × (on.answers.line ≡ next now.answers.line)
      → ((bytes : List ℕ) → Holds now.begun bytes
      → Sent new new' now.answers.text (sheet_answer now.answers.line (bytes ++ run)) on.answers.text)
      → Going start on old new' chunk left
  line_taken n run left on e is is' taken sent = rw is' (record {
    front = g.front ++ (take n rest ++ newline ∷ []);
    joined = append_assoc g.front (take n rest ++ newline ∷ []) (drop (n + 1) rest)
        ∙ ap (λ l. g.front ++ l) (append_assoc (take n rest) (newline ∷ []) (drop (n + 1) rest) ∙ sym (cut_here rest n e)) ∙ g.joined;
    midway = λ bytes o.
        let m = g.midway bytes o in
        let s : Lines = so_far bytes in
        rw (
          lines_append start.answers.line bytes g.front (take n rest ++ newline ∷ []),
          lines_one s.line s.begun (take n rest) (front_free rest n e),
          ← m.took.line,
        )
        (record {
          took = record { line = taken.1; begun = rw taken.0 refl };
          sent = sent_more m.sent (rw is at (sent s.begun m.took.begun));
        });
  })

  -- The chunk ends, and the last line is held.
  module _ (held : Option (List ℕ)) (e : position (λ b. b == newline) rest ≡ None)
      (holds : (bytes : List ℕ) → Holds now.begun bytes → Holds held (bytes ++ rest)) (bytes : List ℕ) (o : Holds start.begun bytes) where
    pub chunk_taken : Midway start (record { begun = held; answers = now.answers }) old new (lines_from start.answers.line bytes chunk)
    chunk_taken =
        let m = g.midway bytes o in
        let s : Lines = so_far bytes in
        rw (← g.joined, run_on start.answers.line bytes g.front rest (all_free rest e))
        (record { took = record { line = m.took.line; begun = holds s.begun m.took.begun }; sent = m.sent })

-- The sheet ends, and a write fails before the last line is answered, or when its answer is written.
module _ {old new : Option (List ℕ)} {line last : ℕ} (bytes : List ℕ) where
  pub cut_before : Short old new [] line last → ShortIn old new line bytes [] (newline ∷ []) last
  cut_before s = record { taken = []; later = newline ∷ []; split = refl; short = rw (lines_none line bytes) s }

  pub cut_at_end : {mid : Option (List ℕ)} {text : List ℕ} → Sent old mid [] (sheet_answer line bytes) text → Short mid new text (next line) last
      → ShortIn old new line bytes [] (newline ∷ []) last
  cut_at_end sent s = record { taken = newline ∷ []; later = []; split = refl; short = rw (lines_end line bytes) (short_later sent s) }
