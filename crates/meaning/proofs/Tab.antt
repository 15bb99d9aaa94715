-- Lists given by a function of the index.
use mathlib.Core.Path.{◌≡◌, refl, sym, ap, ◌∙◌}
use mathlib.Core.List.{List, [], ◌∷◌, ◌++◌}
use Prim.Native.Nat.{ℕ, zero, suc, ◌+◌, ◌≤◌, ◌<◌}
use native.Mathlib.Nat.{zero-add, suc-add, le_of_suc-le-suc, not-suc-le-zero, zero-lt-suc}
use native.Mathlib.Omega.{arith}
use lib.ListN.{length, get_or, take, drop, replicate, length-take, length-drop}
use Rattle.meaning.specs.Array.{tab_from, tab}
use lib.Seq.{ext_get_or, get_or-take, get_or-drop}

module _ {ℓ} {A : Type ℓ} where
  from_suc : (i n : ℕ) (f : ℕ → A) → tab_from (suc i) n f ≡ tab_from i n (λ j. f (suc j))
  unfolding tab_from
  from_suc i zero f = refl
  from_suc i (suc n) f = ap {B = List A} (λ r. f (suc i) ∷ r) (from_suc (suc i) n f)

  pub tab-none : (f : ℕ → A) → tab 0 f ≡ []
  unfolding tab tab_from
  tab-none f = refl

  -- The first element, and the list of the others.
  pub tab-suc : (n : ℕ) (f : ℕ → A) → tab (suc n) f ≡ f zero ∷ tab n (λ i. f (suc i))
  unfolding tab tab_from
  tab-suc n f = ap {B = List A} (λ r. f zero ∷ r) (from_suc 0 n f)

  pub length-tab : (n : ℕ) (f : ℕ → A) → length (tab n f) ≡ n
  length-tab zero f = rw (tab-none f)
  length-tab (suc n) f = rw (tab-suc n f) (ap suc (length-tab n (λ i. f (suc i))))

  pub get_or-tab : (n : ℕ) (f : ℕ → A) (i : ℕ) (d : A) → i < n → get_or (tab n f) i d ≡ f i
  get_or-tab zero f i d h = absurd (not-suc-le-zero h)
  get_or-tab (suc n) f zero d h = rw (tab-suc n f)
  get_or-tab (suc n) f (suc i) d h = rw (tab-suc n f) (get_or-tab n (λ j. f (suc j)) i d (le_of_suc-le-suc h))

  -- A tabulated list depends only on the values below its length.
  pub tab-ext : (n : ℕ) (f g : ℕ → A) → ((i : ℕ) → i < n → f i ≡ g i) → tab n f ≡ tab n g
  tab-ext zero f g h = tab-none f ∙ sym (tab-none g)
  tab-ext (suc n) f g h =
      cc (tab-suc n f, tab-suc n g, h zero (zero-lt-suc n), tab-ext n (λ i. f (suc i)) (λ i. g (suc i)) (λ i l. h (suc i) (omega arith)))

  -- Every list is the table of its own elements.
  pub tab-get_or : (xs : List A) (d : A) → tab (length xs) (λ i. get_or xs i d) ≡ xs
  tab-get_or [] d = tab-none _
  tab-get_or (x ∷ xs) d = tab-suc (length xs) (λ i. get_or (x ∷ xs) i d) ∙ ap {B = List A} (λ r. x ∷ r) (tab-get_or xs d)

  -- A table of one value.
  pub tab-same : (n : ℕ) (x : A) (f : ℕ → A) → ((i : ℕ) → i < n → f i ≡ x) → replicate n x ≡ tab n f
  tab-same zero x f h = sym (tab-none f)
  tab-same (suc n) x f h = cc (tab-suc n f, h zero (zero-lt-suc n), tab-same n x (λ i. f (suc i)) (λ i l. h (suc i) (omega arith)))

  pub tab-add : (a b : ℕ) (f : ℕ → A) → tab (a + b) f ≡ tab a f ++ tab b (λ i. f (a + i))
  tab-add zero b f = rw (zero-add, tab-none f) (tab-ext b f (λ i. f (zero + i)) (λ i l. rw zero-add))
  tab-add (suc a) b f =
      rw (suc-add, tab-suc (a + b) f, tab-suc a f)
      (ap {B = List A} (λ r. f zero ∷ r) (tab-add a b (λ i. f (suc i)) ∙ ap (λ r. tab a (λ i. f (suc i)) ++ r) (tab-ext b _ _ (λ i l. rw suc-add))))

  -- Element i of a part of a list.
  pub get_or_part : (xs : List A) (at n i : ℕ) (d : A) → i < n → get_or (take n (drop at xs)) i d ≡ get_or xs (at + i) d
  get_or_part xs at n i d h = get_or-take n (drop at xs) i d h ∙ get_or-drop at xs i d

  -- A part of a list, as a table.
  pub tab-part : (xs : List A) (at n : ℕ) (d : A) → at + n ≤ length xs → take n (drop at xs) ≡ tab n (λ i. get_or xs (at + i) d)
  tab-part xs at n d h =
      ext_get_or
      d
      (take n (drop at xs))
      (tab n (λ i. get_or xs (at + i) d))
      (simp (length-take, length-drop, length-tab) (omega arith))
      (λ i l.
      let l' : i < n = omega (arith, simp (length-take, length-drop) at l) in
      get_or_part xs at n i d l' ∙ sym (get_or-tab n (λ j. get_or xs (at + j) d) i d l'))
