-- A line that says a call is the printing of the call's numbers.
use Rattle.std.proofs.Common.{◌≡◌, ℕ, zero, suc, ◌≤◌, Bool, true, false, cond, leb, List, [], ◌∷◌, ◌++◌, map, length, ℤ, pos, negsuc, sym, refl, ap, ◌∙◌}
use Rattle.std.proofs.Common.{append_assoc, append-nil, map-id, le-leb}
use mathlib.Core.Option.{some}
use Rattle.shape.specs.Shape.{max_rank, count}
use Rattle.shape.proofs.Bools.{both}
use Rattle.meaning.specs.Array.{Array}
use Rattle.meaning.specs.Terms.{every}
use Rattle.sheet_line.specs.Text.{printed}
use Rattle.sheet_line.specs.Numbers.{and_then, fits, numbers}
use Rattle.sheet_line.specs.Call.{max_line, max_held, Reader, give, fail, ◌then◌, next_number, up_to, natural, many, operand, Head, head}
use Rattle.sheet_line.specs.Call.{Call, call, all_read, call_of, line_call}
use Rattle.sheet_line.proofs.Options.{none-some, some_inj, passed, if_some}
use Rattle.sheet_line.proofs.Operands.{elements_on, count_on, lengths_on}
use Rattle.sheet_line.proofs.Round.{printed-is-read, read-is-printing}

-- The numbers that say a call, in this order.
unfoldable pub operand_numbers : Array → List ℤ
operand_numbers a = pos (length a.lengths) ∷ map pos a.lengths ++ a.elements

unfoldable pub call_numbers : Call → List ℤ
call_numbers c = c.head.primitive ∷ c.head.origin ∷ c.head.k ∷ operand_numbers c.left ++ operand_numbers c.right

-- Numbers that stand before, and then what a reader takes, say what it finds.
abbrev Back : {A : Type 0} → List ℤ → Reader A → (A → List ℤ) → Type 0
Back {A} before p says = (zs : List ℤ) (a : A) (rest : List ℤ) → p zs ≡ some (a, rest) → says a ++ rest ≡ before ++ zs

give-back : {A : Type 0} (says : A → List ℤ) (a : A) → Back (says a) (give a) says
give-back says a zs b rest e = let t = some_inj e in sym (ap (λ u. says u.0 ++ u.1) t)

fail-back : {A : Type 0} (says : A → List ℤ) (before : List ℤ) → Back before fail says
fail-back says before zs a rest e = none-some e

then-back : {A B : Type 0} (p : Reader A) (q : A → Reader B) (f : A → List ℤ) (says : B → List ℤ) (before : List ℤ) → Back [] p f
    → ((a : A) (ys zs : List ℤ) → p ys ≡ some (a, zs) → Back (before ++ f a) (q a) says) → Back before (p then q) says
then-back p q f says before first others zs b rest e =
    let t = passed (p zs) (λ u. q u.0 u.1) (b, rest) e in
    let a = t.found.0 in
    let ys = t.found.1 in
    others a zs ys t.is ys b rest t.on ∙ append_assoc before (f a) ys ∙ ap (λ l. before ++ l) (first zs a ys t.is)

abbrev one : ℤ → List ℤ
one z = z ∷ []

number-back : Back [] next_number one
number-back [] a rest e = none-some e
number-back (z ∷ zs) a rest e = give-back one z zs a rest e

natural-back : (m : ℕ) → Back [] (natural m) (λ n. one (pos n))
unfolding natural
natural-back m = then-back next_number (up_to m) one (λ n. one (pos n)) [] number-back (λ z ys zs e. by_sign z)
  where
    by-test : (k : ℕ) (t : Bool) → Back (one (pos k)) (cond t (give k) fail) (λ n. one (pos n))
    by-test k true = give-back (λ n. one (pos n)) k
    by-test k false = fail-back (λ n. one (pos n)) (one (pos k))

    by_sign : (z : ℤ) → Back (one z) (up_to m z) (λ n. one (pos n))
    by_sign (pos k) = by-test k (leb k m)
    by_sign (negsuc k) = fail-back (λ n. one (pos n)) (one (negsuc k))

module _ {A : Type 0} (p : Reader A) where
  many-back : (w : A → ℤ) → Back [] p (λ a. one (w a)) → (n : ℕ) → Back [] (many p n) (map w)
  unfolding many
  many-back w back zero = give-back (map w) []
  many-back w back (suc n) =
      then-back p _ (λ a. one (w a)) (map w) [] back
      (λ a ys zs e. then-back (many p n) _ (map w) (map w) (one (w a)) (many-back w back n) (λ xs ys zs e. give-back (map w) (a ∷ xs)))

  pub many-length : (n : ℕ) (zs : List ℤ) (xs : List A) (rest : List ℤ) → many p n zs ≡ some (xs, rest) → length xs ≡ n
  unfolding many
  many-length zero zs xs rest e = sym (ap (λ t. length t.0) (some_inj e))
  many-length (suc n) zs xs rest e =
      let a = passed (p zs) (λ t. (many p n then λ ys. give (t.0 ∷ ys)) t.1) (xs, rest) e in
      let others = passed (many p n a.found.1) (λ t. give (a.found.0 ∷ t.0) t.1) (xs, rest) a.on in
      sym (ap (λ t. length t.0) (some_inj others.on)) ∙ ap suc (many-length n a.found.1 others.found.0 others.found.1 others.is)

elements-back : (n : ℕ) → Back [] (many next_number n) (λ zs. zs)
elements-back n zs xs rest e = rw (map-id xs) at (many-back next_number (λ z. z) number-back n zs xs rest e)

operand-back : (limit : ℕ) → Back [] (operand limit) operand_numbers
unfolding operand operand_numbers
operand-back limit =
    then-back (natural max_rank) (lengths_on limit) (λ n. one (pos n)) operand_numbers [] (natural-back max_rank)
    (λ rank ys zs e. then-back (many (natural max_held) rank) (count_on limit) (map pos) operand_numbers (one (pos rank)) (lengths-back rank)
    (λ ns ys zs e. by-test ns rank (many-length (natural max_held) rank ys ns zs e) (leb (count ns) limit)))
  where
    lengths-back : (rank : ℕ) → Back [] (many (natural max_held) rank) (map pos)
    lengths-back rank = many-back (natural max_held) pos (natural-back max_held) rank

    by-test : (ns : List ℕ) (rank : ℕ) → length ns ≡ rank → (t : Bool) → Back (pos rank ∷ map pos ns) (cond t (elements_on ns) fail) operand_numbers
    by-test ns rank e false = fail-back operand_numbers (pos rank ∷ map pos ns)
    by-test ns rank e true =
        rw (← e)
        (then-back (many next_number (count ns)) _ (λ zs. zs) operand_numbers (pos (length ns) ∷ map pos ns) (elements-back (count ns))
        (λ xs ys zs e. give-back operand_numbers (record { lengths = ns; elements = xs })))

abbrev head_numbers : Head → List ℤ
head_numbers h = h.primitive ∷ h.origin ∷ h.k ∷ []

head-back : Back [] head head_numbers
unfolding head
head-back =
    then-back next_number _ one head_numbers [] number-back
    (λ n ys zs e. then-back next_number _ one head_numbers (one n) number-back
    (λ G ys zs e. then-back next_number _ one head_numbers (n ∷ one G) number-back
    (λ K ys zs e. give-back head_numbers (record { primitive = n; origin = G; k = K }))))

call_back : (a b : ℕ) → Back [] (call a b) call_numbers
unfolding call call_numbers
call_back a b =
    then-back head _ head_numbers call_numbers [] head-back
    (λ h ys zs e. then-back (operand a) _ operand_numbers call_numbers (head_numbers h) (operand-back a)
    (λ L ys zs e. then-back (operand b) _ operand_numbers call_numbers (head_numbers h ++ operand_numbers L) (operand-back b)
    (λ R ys zs e. give-back call_numbers (record { head = h; left = L; right = R }))))

-- A good line is exactly the printing of the call that was read from it.
pub line-is-printing : (a b : ℕ) (bs : List ℕ) (c : Call) → line_call a b bs ≡ some c → printed (call_numbers c) ≡ bs
unfolding line_call call_of
line-is-printing a b bs c e =
    let short = if_some (leb (length bs) max_line) (and_then (numbers bs) (call_of a b)) c e in
    let one = passed (numbers bs) (call_of a b) c short.1 in
    let two = passed (call a b one.found) all_read c one.on in
    let said = call_back a b one.found two.found.0 two.found.1 two.is in
    let whole : call_numbers c ≡ one.found = nothing_left two.found two.on one.found said in
    ap printed whole ∙ (read-is-printing bs one.found one.is).printing
  where
    nothing_left : (t : Call × List ℤ) → all_read t ≡ some c → (zs : List ℤ) → call_numbers t.0 ++ t.1 ≡ zs → call_numbers c ≡ zs
    nothing_left (d, []) q zs e = ap call_numbers (sym (some_inj q)) ∙ sym (append-nil (call_numbers d)) ∙ e
    nothing_left (d, z ∷ ys) q zs e = none-some q

-- So no two lines say the same call.
pub one-line-a-call : (a b : ℕ) (bs cs : List ℕ) (c : Call) → line_call a b bs ≡ some c → line_call a b cs ≡ some c → bs ≡ cs
one-line-a-call a b bs cs c p q = sym (line-is-printing a b bs c p) ∙ line-is-printing a b cs c q

-- Conversely, each call that fits a line is read from the printing of its numbers.
pub record Held (limit : ℕ) (a : Array) : Type 0 where
  pub rank : length a.lengths ≤ max_rank
  pub lengths : every (λ n. leb n max_held) a.lengths ≡ true
  pub room : count a.lengths ≤ limit
  pub elements : length a.elements ≡ count a.lengths

natural-again : (m n : ℕ) (rest : List ℤ) → leb n m ≡ true → natural m (pos n ∷ rest) ≡ some (n, rest)
unfolding natural
natural-again m n rest h = rw h

lengths-again : (ns : List ℕ) (rest : List ℤ) → every (λ n. leb n max_held) ns ≡ true
    → many (natural max_held) (length ns) (map pos ns ++ rest) ≡ some (ns, rest)
unfolding many every
lengths-again [] rest h = refl
lengths-again (n ∷ ns) rest h =
    let b = both (leb n max_held) (every (λ m. leb m max_held) ns) h in
    rw (natural-again max_held n (map pos ns ++ rest) b.0, lengths-again ns rest b.1)

elements-again : (zs rest : List ℤ) → many next_number (length zs) (zs ++ rest) ≡ some (zs, rest)
unfolding many
elements-again [] rest = refl
elements-again (z ∷ zs) rest = rw (elements-again zs rest)

operand-again : (limit : ℕ) (a : Array) (rest : List ℤ) → Held limit a → operand limit (operand_numbers a ++ rest) ≡ some (a, rest)
unfolding operand operand_numbers
operand-again limit a rest h =
    let ns = a.lengths in
    let rank = natural-again max_rank (length ns) (map pos ns ++ (a.elements ++ rest)) (le-leb (length ns) max_rank h.rank) in
    let lengths = lengths-again ns (a.elements ++ rest) h.lengths in
    let elements = rw h.elements at (elements-again a.elements rest) in
    rw (append_assoc (map pos ns) a.elements rest, rank, lengths, le-leb (count ns) limit h.room, elements)

call-again : (a b : ℕ) (c : Call) → Held a c.left → Held b c.right → call a b (call_numbers c) ≡ some (c, [])
unfolding call head call_numbers
call-again a b c l r =
    let numbers = operand_numbers c.right in
    let right : operand b numbers ≡ some (c.right, []) = rw (append-nil numbers) at (operand-again b c.right [] r) in
    rw (operand-again a c.left numbers l, right)

pub line-again : (a b : ℕ) (c : Call) → Held a c.left → Held b c.right → every fits (call_numbers c) ≡ true → length (printed (call_numbers c)) ≤ max_line
    → line_call a b (printed (call_numbers c)) ≡ some c
unfolding line_call call_of call_numbers
line-again a b c l r f h =
    let read : numbers (printed (call_numbers c)) ≡ some (call_numbers c) = numbers-again c f in
    rw (le-leb (length (printed (call_numbers c))) max_line h, read, call-again a b c l r)
  where
    numbers-again : (d : Call) → every fits (call_numbers d) ≡ true → numbers (printed (call_numbers d)) ≡ some (call_numbers d)
    numbers-again d q = printed-is-read d.head.primitive _ q
