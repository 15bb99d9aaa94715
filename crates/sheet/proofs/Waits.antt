-- An answer that is printed after the text that waits.
use Rattle.std.proofs.Common.{ℕ, ◌+◌, ◌-◌, ◌≤◌, ◌≡◌, List, ◌++◌, Option, Some, refl, sym, ap, ◌∙◌, arith, append_assoc}
use Rattle.std.proofs.Common.{length, take, drop, length-append, length-take, length-take-le, length-drop}
use Rattle.std.specs.Option.{IsSome}
use Rattle.std.proofs.lemmas.Option.{same_Some}
use lib.Seq.{take_at}
use borrow.Rule.Slice.PartMut.{put_mid, post_of}
use Rattle.sheet_line.specs.Call.{max_line}
use Rattle.sheet_answer.proofs.Answers.{Print, printed-whole}

-- Bytes that were written to the front of a part of a list.
take-both : (xs bytes ys zs : List ℕ) (n : ℕ) → n ≡ length xs + length bytes → take n (xs ++ ((bytes ++ ys) ++ zs)) ≡ xs ++ bytes
take-both xs bytes ys zs n s =
    rw (append_assoc bytes ys zs, ← append_assoc xs bytes (ys ++ zs)) (take_at (xs ++ bytes) (ys ++ zs) n (length-append xs bytes ∙ sym s))

-- The text that waits is the front of a buffer, and an answer is printed to the rest.
module _ (text now : List ℕ) (start : ℕ) (is : take start text ≡ now) (long : length text ≡ 65536) (within : start ≤ 65536)
    (room : length now + max_line ≤ 65536) where
  abbrev part : List ℕ
  part = take (65536 - start) (drop start text)

  roomy : max_line ≤ length part
  roomy =
      omega (arith, ap length is, length-take-le start text (omega (arith, long)), length-take (65536 - start) (drop start text), length-drop start text, long)

  module _ (bytes after : List ℕ) (r : Option ℕ) (few : length bytes ≤ max_line) (p : Print bytes part after r) where
    pub it-fits : IsSome r
    it-fits = rw (printed-whole bytes part after r few roomy p).0 refl

    pub answered : (n : ℕ) → r ≡ Some n → take (start + n) (put_mid start (65536 - start) text after) ≡ now ++ bytes
    answered n e =
        let whole = printed-whole bytes part after r few roomy p in
        let all : n ≡ length bytes = same_Some _ _ (sym e ∙ whole.0) in
        rw (whole.1, ← is)
        (take-both (take start text) bytes (drop (length bytes) part) (post_of start (65536 - start) text) (start + n)
        (omega (arith, all, long, length-take-le start text (omega (arith, long)))))
