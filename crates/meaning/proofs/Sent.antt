-- Axes that are sent to others: what goes where, and the place that a place of the result names.
use mathlib.Core.Path.{◌≡◌, refl, sym, ap, ◌∙◌}
use mathlib.Core.List.{List, [], ◌∷◌}
use mathlib.Core.Bool.{Bool, true, false, cond, ◌||◌}
use Prim.Native.Nat.{ℕ, zero, suc, ◌-◌, ◌≤◌, ◌<◌}
use native.Mathlib.Nat.{not-suc-le-zero, le_of_suc-le-suc}
use native.Mathlib.Omega.{arith}
use borrow.Author.Tests.{eq-eqb, eqb-true, lt-ltb, ltb-true}
use lib.Dec.{eqb, ltb}
use lib.ListN.{length, get_or}
use Rattle.shape.proofs.Places.{In}
use Rattle.shape.proofs.Axis.{in-at, in-from}
use Rattle.meaning.specs.Array.{tab}
use Rattle.meaning.specs.Terms.{every}
use Rattle.meaning.specs.Primitives.{sent_to, smallest, axes_to, sent_lengths, brought_back, backwards, occurs_in, all_occur}
use Rattle.meaning.proofs.Tab.{length-tab, get_or-tab}
use Rattle.meaning.proofs.Every.{every-at}

-- The axes backwards.
pub length-backwards : (r : ℕ) → length (backwards r) ≡ r
unfolding backwards
length-backwards r = length-tab r (λ i. r - 1 - i)

pub get_or-backwards : (r i : ℕ) → i < r → get_or (backwards r) i 0 ≡ r - 1 - i
unfolding backwards
get_or-backwards r i h = get_or-tab r (λ i. r - 1 - i) i 0 h

pub length_back : (ts q : List ℕ) → length (brought_back ts q) ≡ length ts
unfolding brought_back
length_back [] q = refl
length_back (t ∷ ts) q = ap suc (length_back ts q)

pub get_or-back : (ts q : List ℕ) (i : ℕ) → i < length ts → get_or (brought_back ts q) i 0 ≡ get_or q (get_or ts i 0) 0
unfolding brought_back
get_or-back [] q i h = absurd (not-suc-le-zero h)
get_or-back (t ∷ ts) q zero h = refl
get_or-back (t ∷ ts) q (suc i) h = get_or-back ts q i (le_of_suc-le-suc h)

-- The smallest is at most each.
pub smallest-le : (ns : List ℕ) (i : ℕ) → i < length ns → smallest ns ≤ get_or ns i 0
unfolding smallest
smallest-le [] i h = absurd (not-suc-le-zero h)
smallest-le (n ∷ []) zero h = omega arith
smallest-le (n ∷ []) (suc i) h = absurd (omega arith)
smallest-le (n ∷ (m ∷ ns)) zero h = omega arith
smallest-le (n ∷ (m ∷ ns)) (suc i) h = omega (arith, smallest-le (m ∷ ns) i (omega arith))

-- What is sent to axis j: each length whose axis goes there, and no other.
pub sent-has : (ts s : List ℕ) (i : ℕ) → length ts ≡ length s → i < length ts
    → (l : ℕ) × (l < length (sent_to (get_or ts i 0) ts s)) × (get_or (sent_to (get_or ts i 0) ts s) l 0 ≡ get_or s i 0)
unfolding sent_to
sent-has [] s i e h = absurd (not-suc-le-zero h)
sent-has (t ∷ ts) [] i e h = absurd (omega arith)
sent-has (t ∷ ts) (n ∷ s) zero e h = rw (eq-eqb t t refl) (0, omega arith, refl)
sent-has (t ∷ ts) (n ∷ s) (suc i) e h = by (eqb t (get_or ts i 0)) (sent-has ts s i (omega arith) (omega arith))
  where
    by : (b : Bool) → (l : ℕ) × (l < length (sent_to (get_or ts i 0) ts s)) × (get_or (sent_to (get_or ts i 0) ts s) l 0 ≡ get_or s i 0)
        → (l : ℕ) × (l < length (cond b (n ∷ sent_to (get_or ts i 0) ts s) (sent_to (get_or ts i 0) ts s)))
        × (get_or (cond b (n ∷ sent_to (get_or ts i 0) ts s) (sent_to (get_or ts i 0) ts s)) l 0 ≡ get_or s i 0)
    by true r = (suc r.0, omega arith, r.2)
    by false r = r

pub sent-from : (j : ℕ) (ts s : List ℕ) (l : ℕ) → l < length (sent_to j ts s)
    → (i : ℕ) × (i < length ts) × (get_or ts i 0 ≡ j) × (get_or (sent_to j ts s) l 0 ≡ get_or s i 0)
unfolding sent_to
sent-from j [] s l h = absurd (not-suc-le-zero h)
sent-from j (t ∷ ts) [] l h = absurd (not-suc-le-zero h)
sent-from j (t ∷ ts) (n ∷ s) l h = by (eqb t j) refl (sent-from j ts s) l h
  where
    by : (b : Bool) → eqb t j ≡ b
        → ((l : ℕ) → l < length (sent_to j ts s) → (i : ℕ) × (i < length ts) × (get_or ts i 0 ≡ j) × (get_or (sent_to j ts s) l 0 ≡ get_or s i 0))
        → (l : ℕ) → l < length (cond b (n ∷ sent_to j ts s) (sent_to j ts s))
        → (i : ℕ) × (i < suc (length ts)) × (get_or (t ∷ ts) i 0 ≡ j) × (get_or (cond b (n ∷ sent_to j ts s) (sent_to j ts s)) l 0 ≡ get_or (n ∷ s) i 0)
    by true e f zero h = (0, omega arith, eqb-true t j e, refl)
    by true e f (suc l) h = let r = f l (omega arith) in (suc r.0, omega arith, r.2, r.3)
    by false e f l h = let r = f l h in (suc r.0, omega arith, r.2, r.3)

pub axes-lt : (ts : List ℕ) (i : ℕ) → i < length ts → get_or ts i 0 < axes_to ts
unfolding axes_to
axes-lt [] i h = absurd (not-suc-le-zero h)
axes-lt (t ∷ ts) zero h = omega arith
axes-lt (t ∷ ts) (suc i) h = omega (arith, axes-lt ts i (omega arith))

pub axes-le : (ts : List ℕ) (r : ℕ) → ((i : ℕ) → i < length ts → get_or ts i 0 < r) → axes_to ts ≤ r
unfolding axes_to
axes-le [] r h = omega arith
axes-le (t ∷ ts) r h = omega (arith, h zero (omega arith), axes-le ts r (λ i l. h (suc i) (omega arith)))

pub length-shape : (ts s : List ℕ) → length (sent_lengths ts s) ≡ axes_to ts
unfolding sent_lengths
length-shape ts s = length-tab (axes_to ts) _

-- The length of a result axis, of any transposition.
pub get_d_shape : (ts s : List ℕ) (j : ℕ) → j < axes_to ts → get_or (sent_lengths ts s) j 0 ≡ smallest (sent_to j ts s)
unfolding sent_lengths
get_d_shape ts s j h = get_or-tab (axes_to ts) _ j 0 h

-- A place of the result names a place of the array, also on a diagonal.
pub brought_back-in : (ts s q : List ℕ) → length ts ≡ length s → In (sent_lengths ts s) q → In s (brought_back ts q)
brought_back-in ts s q e h =
    in-from s (brought_back ts q) (length_back ts q ∙ e)
    (λ i l.
    let l' : i < length ts = omega arith in
    let j : ℕ = get_or ts i 0 in
    let r = sent-has ts s i e l' in
    omega (
      arith,
      get_or-back ts q i l',
      in-at (sent_lengths ts s) q j h (rw (length-shape ts s) (axes-lt ts i l')),
      get_d_shape ts s j (axes-lt ts i l'),
      smallest-le (sent_to j ts s) r.0 r.1,
      r.2,
    ))

-- A test that each element passes, by position.
pub every-from : {A : Type 0} (test : A → Bool) (xs : List A) (d : A) → ((i : ℕ) → i < length xs → test (get_or xs i d) ≡ true) → every test xs ≡ true
unfolding every
every-from test [] d h = refl
every-from test (x ∷ xs) d h = rw (h 0 (omega arith)) (every-from test xs d (λ i l. h (suc i) (omega arith)))

-- An axis is sent to each of the result's: the test and the fact.
abbrev pub Occur : List ℕ → Type 0
Occur ts = (j : ℕ) → j < axes_to ts → 0 < length (sent_to j ts ts)

occurs-at : (ts : List ℕ) (j : ℕ) → j < axes_to ts → get_or (tab (axes_to ts) (λ j. j)) j 0 ≡ j
occurs-at ts j h = get_or-tab (axes_to ts) (λ j. j) j 0 h

-- j occurs in ts where some axis is sent to it.
occurs-sent : (ts ns : List ℕ) (j : ℕ) → length ts ≡ length ns → occurs_in ts j ≡ ltb 0 (length (sent_to j ts ns))
unfolding occurs_in sent_to
occurs-sent [] ns j e = refl
occurs-sent (t ∷ ts) [] j e = absurd (omega arith)
occurs-sent (t ∷ ts) (n ∷ ns) j e = by (eqb t j) (occurs-sent ts ns j (omega arith))
  where
    by : (b : Bool) → occurs_in ts j ≡ ltb 0 (length (sent_to j ts ns))
        → (b || occurs_in ts j) ≡ ltb 0 (length (cond b (n ∷ sent_to j ts ns) (sent_to j ts ns)))
    by true h = sym (lt-ltb 0 (suc (length (sent_to j ts ns))) (omega arith))
    by false h = h

pub all-occur : (ts : List ℕ) → Occur ts → all_occur ts ≡ true
unfolding all_occur
all-occur ts o =
    every-from _ (tab (axes_to ts) (λ j. j)) 0
    (λ j l.
    let l' : j < axes_to ts = rw (length-tab (axes_to ts) (λ (j : ℕ). j)) at l in
    ap (occurs_in ts) (occurs-at ts j l') ∙ occurs-sent ts ts j refl ∙ lt-ltb 0 (length (sent_to j ts ts)) (o j l'))

pub occur-all : (ts : List ℕ) → all_occur ts ≡ true → Occur ts
unfolding all_occur
occur-all ts h j l =
    let t = every-at (occurs_in ts) (tab (axes_to ts) (λ j. j)) 0 h j (rw (length-tab (axes_to ts) (λ (j : ℕ). j)) l) in
    ltb-true 0 (length (sent_to j ts ts)) (sym (occurs-sent ts ts j refl) ∙ ap (occurs_in ts) (sym (occurs-at ts j l)) ∙ t)
