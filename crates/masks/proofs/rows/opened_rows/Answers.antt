use Rattle.std.proofs.Common.{arith, ◌∙◌, sym, ◌*◌, length, replicate, pos}
use mathlib.Core.Path.{refl, ap, subst}
use native.Mathlib.Nat.{zero-mul}
use Rattle.masks.proofs.Scattered.{Scattered, scattered-none, rows-all, note-inside, noted-room, rows-next}
use Rattle.masks.proofs.rows.opened_rows.Goals as goal

pub loop-q-init : goal.loop-q-init
loop-q-init c =
    let a = c.args in
    let n = length a.l.now * a.inner in
    rw (zero-mul a.inner)
    (subst (λ x. Scattered a.l.now a.r.now a.inner (replicate n (pos 0)) x 0 0)
    (sym (c.fill_run.ensures ∙ ap (λ k. replicate k (pos 0)) c.requires.1.1.room)) (scattered-none _ _ _ n _ refl refl))

pub bounds-at-q : goal.bounds-at-q
bounds-at-q c = note-inside c.loop-q.invariant c.requires (omega arith)

pub overflow_mul-to : goal.overflow_mul-to
overflow_mul-to c = rw c.from-x.ensures (omega (arith, noted-room c.loop-q.invariant c.requires (omega arith)))

pub overflow_add-end : goal.overflow_add-end
overflow_add-end c = rw c.from-x.ensures (omega (arith, noted-room c.loop-q.invariant c.requires (omega arith)))

pub offset_bounds-out-to : goal.offset_bounds-out-to
offset_bounds-out-to c = rw c.from-x.ensures (omega (arith, noted-room c.loop-q.invariant c.requires (omega arith)))

pub slice_bounds-copy_run-end-in-loop-q : goal.slice_bounds-copy_run-end-in-loop-q
slice_bounds-copy_run-end-in-loop-q c = rw c.from-x.ensures (omega (arith, noted-room c.loop-q.invariant c.requires (omega arith)))

pub loop-q-preserved : goal.loop-q-preserved
loop-q-preserved c = rw c.from-x.ensures (rows-next c.loop-q.invariant c.requires (omega arith) _ (rw c.from-x.ensures at c.copy_run.ensures))

pub returns : goal.returns
returns c = rows-all c.loop-q.invariant c.requires (omega arith)
