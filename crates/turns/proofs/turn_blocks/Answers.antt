use Rattle.std.proofs.Common.{arith, rules, ◌≡◌, ◌∙◌, sym, ◌*◌, ℕ, ℤ, to_z, of_z, w32}
use mathlib.Core.Path.{ap}
use mathlib.Core.Bool.{cond}
use lib.Dec.{eqb}
use mir.Val.{SFits}
use Rattle.shape.proofs.Places.{row_fits}
use Rattle.signed.proofs.Reading.{read32}
use Rattle.meaning.specs.Terms.{modulo}
use Rattle.copying.specs.Steps.{filled}
use Rattle.turns.specs.declared.Turn.{Turn}
use Rattle.turns.specs.Steps.{turned_at}
use Rattle.turns.proofs.Rows.{cut-le}
use Rattle.turns.proofs.Groups.{cut-turned}
use Rattle.turns.proofs.turn_blocks.Goals as goal

-- The amount as rows, read from a local.
rows_is : (n rows : ℕ) {z : ℤ} → SFits w32 z → rows ≡ cond (eqb n 0) 0 (modulo (to_z w32 (of_z w32 z)) n) → rows ≡ cond (eqb n 0) 0 (modulo z n)
rows_is n rows f e = e ∙ ap (λ z. cond (eqb n 0) 0 (modulo z n)) (read32 _ f)

pub overflow_mul-rows : goal.overflow_mul-rows
overflow_mul-rows c =
    let w = c.args.w in
    let f : SFits w32 c.in-By.z = search rules in
    omega (
      arith,
      cut-le _ w.length _ c.requires.0 (rows_is w.length _ f c.modulo-rows.ensures) w.inner,
      row_fits 0 w.outer (w.length * w.inner) c.requires.1.some,
      c.requires.1.source,
    )

pub rotate_groups-requires : goal.rotate_groups-requires
rotate_groups-requires c =
    let w = c.args.w in
    let f : SFits w32 c.in-By.z = search rules in
    (cut-le _ w.length _ c.requires.0 (rows_is w.length _ f c.modulo-rows.ensures) w.inner, c.requires.1)

pub returns-in-By : goal.returns-in-By
returns-in-By c =
    let a = c.args in
    let w = a.w in
    let f : SFits w32 c.in-By.z = search rules in
    c.rotate_groups.ensures
    ∙ cut-turned a.r.now w.outer w.inner _ w.length _ c.requires.0 (rows_is w.length _ f c.modulo-rows.ensures) a.out.now
    ∙ ap (λ (t : Turn). filled (turned_at t a.r.now w.length w.inner) (w.outer * w.length * w.inner) a.out.now) (sym c.in-By.is)
