-- Blocks written one after another.
use mathlib.Core.Path.{◌≡◌, refl, sym, ap, ◌∙◌}
use mathlib.Core.List.{List, ◌++◌}
use mathlib.Core.Bool.{Bool, false}
use Prim.Native.Nat.{ℕ, ◌+◌, ◌*◌, ◌-◌, ◌≤◌, ◌<◌}
use native.Mathlib.Nat.{zero-add}
use native.Mathlib.Omega.{arith}
use lib.ListN.{length, get_or, take, drop, replicate, get_or-append}
use lib.Seq.{drop_at}
use lib.IntN.{ℤ, pos}
use borrow.Rule.Slice.PartMut.{put_mid}
use borrow.Author.Tests.{ne_eqb}
use Rattle.shape.proofs.Places.{row_fits}
use Rattle.meaning.specs.Array.{tab}
use Rattle.meaning.specs.Terms.{ones}
use Rattle.meaning.proofs.Tab.{length-tab, get_or-tab, get_or_part}
use Rattle.copying.specs.Steps.{filled}
use Rattle.copying.proofs.Runs.{filled_none, length-filled, put-filled}
use Rattle.copying.proofs.Parts.{part-long, part_room}
use Rattle.copying.proofs.Blocks.{put-block}
use Rattle.copying.proofs.Blockwise.{Blockwise, blockwise-at, blockwise-next}
use Rattle.copying.proofs.Gathered.{gathered_none, gathered_next, gathered-all}
use Rattle.copying.specs.declared.AxisBlocks.{AxisBlocks}
use Rattle.copying.specs.Gather.{gathered, PositionsNoted}
use Rattle.masks.specs.Steps.Actions.{width, takes_at, taken}
use Rattle.masks.specs.Steps.Rows.{rows_of, placed, placed_in, Block, InBlocks, Noted, Zeros, ByNotes}
use Rattle.masks.proofs.Ones.{ones-le}
use Rattle.masks.proofs.Actions.{taken-lt}

-- Block o of a buffer that has blocks of n elements.
abbrev block-of : List ℤ → ℕ → ℕ → List ℤ
block-of buffer o n = take (o * n + n - o * n) (drop (o * n) buffer)

-- Block o of all that are read and written.
module _ {a : Bool} {l : List ℤ} {b : AxisBlocks} (r out₀ : List ℤ) (k : InBlocks a l b (length r) (length out₀)) (o : ℕ) (h : o < b.outer) where
  pub block_inside : o * (b.taken * b.inner) + b.taken * b.inner ≤ length r
  block_inside = omega (arith, row_fits o b.outer (b.taken * b.inner) h, k.lie.source)

  pub block_room : o * (b.made * b.inner) + b.made * b.inner ≤ length out₀
  block_room = omega (arith, row_fits o b.outer (b.made * b.inner) h, k.lie.room)

  module _ {out : List ℤ} (w : Blockwise b.outer (b.made * b.inner) (placed a l b r) out₀ out (o * (b.made * b.inner)) o) where
    pub placed-block : Block a l b (length (block-of r o (b.taken * b.inner))) (length (block-of out o (b.made * b.inner)))
    placed-block = record {
      fitting = k.fitting;
      wide = k.wide;
      row = k.row;
      source = part-long r (o * (b.taken * b.inner)) (b.taken * b.inner) block_inside;
      room = part_room out (o * (b.made * b.inner)) (b.made * b.inner) (length out₀) w.long block_room;
    }

    pub placed-more : (last : List ℤ) → last ≡ tab (b.made * b.inner) (rows_of a l b.taken b.inner (block-of r o (b.taken * b.inner)))
        → Blockwise b.outer (b.made * b.inner) (placed a l b r) out₀
        (put_mid (o * (b.made * b.inner)) (o * (b.made * b.inner) + b.made * b.inner - o * (b.made * b.inner)) out last)
        ((o + 1) * (b.made * b.inner)) (o + 1)
    placed-more last e =
        blockwise-at
        (blockwise-next w last h
        (ap length e ∙ length-tab (b.made * b.inner) _ ∙ sym (part_room out (o * (b.made * b.inner)) (b.made * b.inner) (length out₀) w.long block_room))
        (put-block (takes_at a l) (taken a l b.taken) b.taken b.made b.inner r o (λ i q. taken-lt a l b.taken i k.fitting (omega (arith, k.wide))) out out₀ last
        (o * (b.taken * b.inner)) (o * (b.made * b.inner)) w.done refl refl e))

    -- The zeros that single elements go into.
    pub placed-notes : {at : List ℕ} → ByNotes l at b.inner (b.outer * (b.made * b.inner)) out₀
        → let block = block-of out o (b.made * b.inner) in ByNotes l at b.inner (length block) block
    placed-notes by =
        let long = part_room out (o * (b.made * b.inner)) (b.made * b.inner) (length out₀) w.long block_room in
        let below = row_fits o b.outer (b.made * b.inner) h in
        let rest : drop (o * (b.made * b.inner)) out ≡ drop (o * (b.made * b.inner)) out₀ =
        ap (drop (o * (b.made * b.inner))) w.done
        ∙ drop_at (tab (o * (b.made * b.inner)) (placed a l b r)) (drop (o * (b.made * b.inner)) out₀) (o * (b.made * b.inner))
        (length-tab (o * (b.made * b.inner)) (placed a l b r)) in
        record {
          short = by.short;
          notes = by.notes;
          blank = λ s j i.
              ap (λ x. get_or (take (o * (b.made * b.inner) + b.made * b.inner - o * (b.made * b.inner)) x) j (pos 0)) rest
              ∙ get_or_part out₀ (o * (b.made * b.inner)) (o * (b.made * b.inner) + b.made * b.inner - o * (b.made * b.inner)) j (pos 0) (omega arith)
              ∙ by.blank s (o * (b.made * b.inner) + j) (omega arith);
        }

-- By the noted ones of a mask that compresses: its rows are gathered.
module _ (l : List ℤ) (b : AxisBlocks) (r out : List ℤ) (k : InBlocks false l b (length r) (length out)) (o : b.taken ≡ 1 → ⊥)
    (at : List ℕ) (short : length l ≤ length at) (notes : Noted l at) where
  wide-kept : b.made ≡ length (ones l)
  unfolding width
  wide-kept = k.wide

  kept-is : (i : ℕ) → taken false l b.taken i ≡ get_or (ones l) i 0
  unfolding taken
  kept-is i = rw (ne_eqb b.taken 1 o)

  pub gathered-in : b.made ≤ length at
  gathered-in = omega (arith, wide-kept, ones-le 0 l, short)

  pub gathered-placed : (last : List ℤ) → last ≡ gathered (take (b.made - 0) at) 0 b r out → last ≡ placed_in false l b r out
  unfolding takes_at
  gathered-placed last e =
      let low : (i : ℕ) → i < b.made → taken false l b.taken i < b.taken = λ i q. taken-lt false l b.taken i k.fitting (omega (arith, k.wide)) refl in
      let start = gathered_none (taken false l b.taken) b r out k.lie low in
      let noted : PositionsNoted (λ q. taken false l b.taken (0 + q)) b.made at =
      λ q i. notes q (omega (arith, wide-kept)) ∙ sym (ap (λ x. taken false l b.taken x) (zero-add q) ∙ kept-is q) in
      gathered-all (taken false l b.taken) b r out k.lie low
      (rw (zero-add b.made) at (gathered_next (taken false l b.taken) b r out k.lie low start at b.made gathered-in (omega arith) noted e))

-- Zeros written over the first k elements.
module _ (k : ℕ) (out last : List ℤ) (room : k ≤ length out) (w : last ≡ replicate (length (take (k - 0) out)) (pos 0)) where
  abbrev zero : ℕ → ℤ
  zero j = pos 0

  cleared : put_mid 0 (k - 0) out last ≡ filled zero k out
  cleared =
      put-filled zero 0 k k out out last (filled_none zero out) (omega arith) room (pos 0) (λ i h. refl) w
      ∙ ap (λ x. filled zero x out) (zero-add k)

  pub cleared-long : length (put_mid 0 (k - 0) out last) ≡ length out
  cleared-long = ap length cleared ∙ length-filled zero k out room

  pub cleared-blank : Zeros k (put_mid 0 (k - 0) out last)
  cleared-blank j h =
      ap (λ x. get_or x j (pos 0)) cleared
      ∙ get_or-append (tab k zero) (drop k out) (pos 0) j (omega (arith, length-tab k zero))
      ∙ get_or-tab k zero j (pos 0) h

  pub cleared-under : (g : ℕ → ℤ) → filled g k (put_mid 0 (k - 0) out last) ≡ filled g k out
  cleared-under g = ap (λ x. tab k g ++ x) (ap (drop k) cleared ∙ drop_at (tab k zero) (drop k out) k (length-tab k zero))
