-- Blocks, each cut and its two parts exchanged, by groups: one run over all blocks of a group, and then the shorter part of each.
use mathlib.Core.Path.{◌≡◌, refl, sym, ap, ◌∙◌}
use mathlib.Core.List.{List, ◌++◌}
use mathlib.Core.Bool.{cond}
use Prim.Native.Nat.{ℕ, ◌+◌, ◌*◌, ◌-◌, ◌/◌, ◌%◌, ◌≤◌, ◌<◌}
use native.Mathlib.Nat.{mul-le-mul_right, mod-eq_of_lt, mod-lt, add-mod_right, div-add-mod'}
use native.Mathlib.Omega.{arith}
use lib.Arith.{digits_lt, digits_div, digits_mod}
use borrow.Rule.Slice.PartMut.{put_mid, mid_of, post_of, same_len_mid, drop_put}
use lib.ListN.{length, get_or, take, drop, get_or-append}
use lib.Seq.{drop-drop, get_or-append-add, length-take-le}
use lib.Dec.{eqb}
use lib.IntN.{ℤ, pos}
use Rattle.meaning.specs.Terms.{modulo}
use Rattle.meaning.specs.Array.{tab}
use Rattle.meaning.proofs.Tab.{tab-ext, get_or_part}
use Rattle.copying.specs.Runs.{copied}
use Rattle.copying.proofs.Runs.{copied-whole, put-copied}
use Rattle.copying.specs.Steps.{filled, source}
use Rattle.copying.proofs.Blocks.{source_in}
use Rattle.turns.specs.declared.Turn.TheVariants.{By}
use Rattle.turns.specs.Steps.{Lie, turn_position, turned_at, cut_blocks, Shifts}
use Rattle.turns.specs.Steps.Shifts.{down, up}
use Rattle.shape.proofs.Places.{row_fits, row_in}
use Rattle.copying.proofs.Parts.{filled_on, part-long, part_filled}
use Rattle.copying.proofs.Blockwise.{Blockwise, blockwise-room}
use Rattle.turns.proofs.Rows.{row_cut}

-- What the run over all blocks leaves: the elements of r from `from` on stand at `to .. end`, and those after the blocks as they were.
pub record Moved (r out₀ out₁ : List ℤ) (from to end total : ℕ) : Type 0 where
  pub long : length out₁ ≡ length out₀
  pub after : drop total out₁ ≡ drop total out₀
  pub run : (j k : ℕ) → to ≤ j → j < end → j + from ≡ k + to → get_or out₁ j (pos 0) ≡ get_or r k (pos 0)

pub first_run : {r out₀ last : List ℤ} {from to total : ℕ} (n : ℕ) → from + n ≤ length r → to + n ≤ total → total ≤ length out₀
    → last ≡ copied (take (from + n - from) (drop from r)) (take (to + n - to) (drop to out₀))
    → Moved r out₀ (put_mid to (to + n - to) out₀ last) from to (to + n) total
first_run {r} {out₀} {last} {from} {to} {total} n inside e room q =
    let end : ℕ = to + n in
    let out₁ : List ℤ = put_mid to (end - to) out₀ last in
    let wide : end - to ≡ n = omega arith in
    let source : length (take (from + n - from) (drop from r)) ≡ n = part-long r from n inside in
    let part : length (mid_of to (end - to) out₀) ≡ n = part-long out₀ to n (omega arith) in
    let whole : last ≡ take (from + n - from) (drop from r) = q ∙ copied-whole _ _ (source ∙ sym part) in
    let many : length last ≡ n = ap length whole ∙ source in
    let start : length (take to out₀) ≡ to = length-take-le to out₀ (omega arith) in
    let t : end + (total - end) ≡ total = omega arith in
    record {
      long = same_len_mid to (end - to) out₀ last (many ∙ sym part);
      after =
          ap (λ k. drop k out₁) (sym t)
          ∙ sym (drop-drop (total - end) end out₁)
          ∙ ap (drop (total - end)) (drop_put to end out₀ last (omega arith) (omega arith) (many ∙ sym wide))
          ∙ drop-drop (total - end) end out₀
          ∙ ap (λ k. drop k out₀) t;
      run = λ j k a b f.
          let i : j ≡ length (take to out₀) + (j - to) = omega arith in
          let s : from + (j - to) ≡ k = omega arith in
          ap (λ x. get_or out₁ x (pos 0)) i
          ∙ get_or-append-add (take to out₀) (last ++ post_of to (end - to) out₀) (j - to) (pos 0)
          ∙ get_or-append last (post_of to (end - to) out₀) (pos 0) (j - to) (omega arith)
          ∙ ap (λ ys. get_or ys (j - to) (pos 0)) whole
          ∙ get_or_part r from (from + n - from) (j - to) (pos 0) (omega arith)
          ∙ ap (λ x. get_or r x (pos 0)) s;
    }

-- Element i of block o.
in_block : (r : List ℤ) (size cut o i : ℕ) → i < size → cut_blocks r size cut (o * size + i) ≡ get_or r (o * size + (i + cut) % size) (pos 0)
in_block r size cut o i l = rw (digits_div o l, digits_mod o l)

-- Element j of the block at `at` comes from the same block: from k.
module _ (r : List ℤ) (o : ℕ) {size cut at : ℕ} (h : cut ≤ size) (a : at ≡ o * size) (j k : ℕ) where
  from_place : at ≤ j → j < at + size → (j - at + cut) % size ≡ k - at → at ≤ k → cut_blocks r size cut j ≡ get_or r k (pos 0)
  from_place l b e m =
      let s : j ≡ o * size + (j - at) = omega arith in
      let t : o * size + (k - at) ≡ k = omega arith in
      ap (cut_blocks r size cut) s ∙ in_block r size cut o (j - at) (omega arith) ∙ ap (λ x. get_or r x (pos 0)) (ap (λ x. o * size + x) e ∙ t)

  before-seam : at ≤ j → k < at + size → j + cut ≡ k → cut_blocks r size cut j ≡ get_or r k (pos 0)
  before-seam l b e =
      let s : j - at + cut ≡ k - at = omega arith in
      from_place l (omega arith) (ap (λ x. x % size) s ∙ mod-eq_of_lt (omega arith)) (omega arith)

  after-seam : at ≤ k → j < at + size → j + cut ≡ k + size → cut_blocks r size cut j ≡ get_or r k (pos 0)
  after-seam l b e =
      let s : j - at + cut ≡ k - at + size = omega arith in
      from_place (omega arith) b (ap (λ x. x % size) s ∙ add-mod_right (k - at) size ∙ mod-eq_of_lt (omega arith)) l

-- The parts of a block lie in it.
pub record Bounds (size from to before after : ℕ) : Type 0 where
  pub source_in : before + (from + to) ≤ size
  pub target-in : after + (from + to) ≤ size
  pub cut_in : from + before ≤ size

pub bounds : {size from to before after : ℕ} → Shifts size from to before after → Bounds size from to before after
bounds (down e f h) = record { source_in = omega arith; target-in = omega arith; cut_in = omega arith }
bounds (up e f h) = record { source_in = omega arith; target-in = omega arith; cut_in = omega arith }

-- A block is no longer than all of them.
pub limits : {size from to before after outer m n : ℕ} → Shifts size from to before after → Lie outer size m n
    → Bounds size from to before after × (size ≤ outer * size)
limits {size} {outer = outer} shifts lie = (bounds shifts, omega (arith, row_fits 0 outer size lie.some))

-- A block more: its part is written, and its other part stands already.
module _ {r out₀ out₁ out : List ℤ} {outer size from to before after o at : ℕ} (shifts : Shifts size from to before after)
    (lie : Lie outer size (length r) (length out₀)) (m : Moved r out₀ out₁ from to (to + (outer * size - (from + to))) (outer * size))
    (l : o < outer) (f : Blockwise outer size (cut_blocks r size (from + before)) out₁ out at o) where
  abbrev turned : ℕ → ℤ
  turned = cut_blocks r size (from + before)

  abbrev target : ℕ
  target = at + after

  abbrev part : ℕ
  part = from + to

  pub shift-step : {last : List ℤ}
      → last ≡ copied (take (at + before + part - (at + before)) (drop (at + before) r)) (take (target + part - target) (drop target out))
      → put_mid target (target + part - target) out last ≡ filled turned (at + size) out₁
  shift-step {last} q = by shifts
    where
      by : Shifts size from to before after → put_mid target (target + part - target) out last ≡ filled turned (at + size) out₁
      by (down e z h) =
          let b = row_fits o outer size l in
          let a = f.at-is in
          let kept = m.long in
          let low = before-seam r o (bounds shifts).cut_in a in
          let high = after-seam r o (bounds shifts).cut_in a in
          let more : filled turned at out₁ ≡ filled turned target out₁ =
          filled_on turned at after out₁ (omega (arith, lie.space))
          (λ i v. low (at + i) (at + i + (from + before)) (omega arith) (omega arith) refl
          ∙ sym (m.run (at + i) _ (omega arith) (omega arith) (omega arith))) in
          put-copied turned target part _ out out₁ last (f.done ∙ more) refl (omega (arith, lie.space)) r (at + before) _ (pos 0) refl
          (omega (arith, lie.source)) (λ i v. high (target + i) (at + before + i) (omega arith) (omega arith) (omega arith)) q
          ∙ ap (λ k. filled turned k out₁) (omega arith)
      by (up e z h) =
          let b = row_fits o outer size l in
          let a = f.at-is in
          let kept = m.long in
          let low = before-seam r o (bounds shifts).cut_in a in
          let high = after-seam r o (bounds shifts).cut_in a in
          let here : at ≡ target = omega arith in
          put-copied turned target part _ out out₁ last (f.done ∙ ap (λ k. filled turned k out₁) here) refl (omega (arith, lie.space)) r (at + before) _
          (pos 0) refl (omega (arith, lie.source)) (λ i v. low (target + i) (at + before + i) (omega arith) (omega arith) (omega arith)) q
          ∙ filled_on turned (target + part) (size - part) out₁ (omega (arith, lie.space))
          (λ i v. high (target + part + i) (at + i) (omega arith) (omega arith) (omega arith)
          ∙ sym (m.run _ (at + i) (omega arith) (omega arith) (omega arith)))
          ∙ ap (λ k. filled turned k out₁) (omega arith)

-- A block more lies within both buffers.
pub block-lies : {outer size m at o : ℕ} {g : ℕ → ℤ} {out₀ out : List ℤ} → Blockwise outer size g out₀ out at o → o < outer
    → Lie outer size m (length out₀) → (at + size ≤ m) × (at + size ≤ length out)
block-lies b l lie = (blockwise-room b _ l lie.source, rw b.long (blockwise-room b _ l lie.space))

-- A group of some blocks more lies within both buffers.
pub group-lies : {outer size m n at : ℕ} (o some : ℕ) → Lie outer size m n → at ≡ o * size → o + some ≤ outer → (at + some * size ≤ m) × (at + some * size ≤ n)
group-lies {outer} {size} o some lie e h =
    let k = mul-le-mul_right {m = o + some} {n = outer} size h in
    (omega (arith, e, k, lie.source), omega (arith, e, k, lie.space))

-- After the blocks the buffer is as it was.
pub moved_all : {r : List ℤ} (outer size : ℕ) {from to end : ℕ} {out out₀ out₁ : List ℤ} (g : ℕ → ℤ) → Moved r out₀ out₁ from to end (outer * size)
    → out ≡ filled g (outer * size) out₁ → out ≡ filled g (outer * size) out₀
moved_all outer size g m f = f ∙ ap (λ ys. tab (outer * size) g ++ ys) m.after

-- A group of blocks more, the first of them block o: they are the blocks of the part of r from there on.
module _ (r : List ℤ) (cut some : ℕ) {out₀ out : List ℤ} {outer size o at : ℕ} (f : Blockwise outer size (cut_blocks r size cut) out₀ out at o) where
  abbrev group : List ℤ
  group = take (at + some * size - at) (drop at r)

  group_at : (i : ℕ) → i < some * size → cut_blocks r size cut (at + i) ≡ cut_blocks group size cut i
  group_at i h =
      let w = row_in some size i h in
      let x : ℕ = (i % size + cut) % size in
      let e : at + i ≡ (o + i / size) * size + i % size = omega (arith, f.at-is, div-add-mod' i size) in
      let s : (o + i / size) * size + x ≡ at + (i / size * size + x) = omega (arith, f.at-is) in
      ap (cut_blocks r size cut) e
      ∙ in_block r size cut (o + i / size) (i % size) (mod-lt i w.0)
      ∙ ap (λ k. get_or r k (pos 0)) s
      ∙ sym (get_or_part r at (at + some * size - at) (i / size * size + x) (pos 0) (omega (arith, digits_lt w.1 (mod-lt (i % size + cut) w.0))))

  pub group-step : {last : List ℤ} → at + some * size ≤ length out
      → last ≡ filled (cut_blocks group size cut) (some * size) (take (at + some * size - at) (drop at out))
      → put_mid at (at + some * size - at) out last ≡ filled (cut_blocks r size cut) (at + some * size) out₀
  group-step room q =
      part_filled (cut_blocks r size cut) _ at (some * size) (at + some * size) out out₀ _ _ f.done refl (part-long out at (some * size) room) q group_at

-- Blocks of n rows, each cut at some rows, are turned by the amount.
module _ (r : List ℤ) (outer c : ℕ) (z : ℤ) (n rows : ℕ) (some : 0 < n) (e : rows ≡ cond (eqb n 0) 0 (modulo z n)) where
  same-element : (j : ℕ) → j < outer * (n * c) → cut_blocks r (n * c) (rows * c) j ≡ turned_at (By z) r n c j
  same-element j h =
      let size : ℕ = n * c in
      let w = row_in outer size j h in
      let i : j % size < size = mod-lt j w.0 in
      let to : ℕ = turn_position (By z) n (j % size / c) in
      let s : j / size * size + (to * c + j % size % c) ≡ (j / size * n + to) * c + j % size % c = omega arith in
      ap (λ k. get_or r k (pos 0))
      (ap (λ k. j / size * size + k) (row_cut z n rows some e c (j % size) i) ∙ s
      ∙ sym (source_in n n c (turn_position (By z) n) (j / size) (j % size) i) ∙ ap (source n n c (turn_position (By z) n)) (div-add-mod' j size))

  pub cut-turned : (out : List ℤ) → filled (cut_blocks r (n * c) (rows * c)) (outer * (n * c)) out ≡ filled (turned_at (By z) r n c) (outer * n * c) out
  cut-turned out =
      let whole : outer * (n * c) ≡ outer * n * c = omega arith in
      ap (λ ys. ys ++ drop (outer * (n * c)) out) (tab-ext (outer * (n * c)) _ _ same-element)
      ∙ ap (λ k. filled (turned_at (By z) r n c) k out) whole
