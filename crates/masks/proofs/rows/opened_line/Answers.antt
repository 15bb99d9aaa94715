use Rattle.std.proofs.Common.{arith, rules, get_or, pos}
use mathlib.Core.Path.{refl}
use Rattle.signed.proofs.Reading.{read32}
use Rattle.masks.proofs.Scattered.{zeros-are, scattered-none, scattered-all, scattered-one, one_left, count-few, row_room}
use Rattle.masks.proofs.rows.opened_line.Goals as goal

pub loop-q-init : goal.loop-q-init
loop-q-init c = scattered-none _ _ 1 _ _ (zeros-are c.args.out.now (c.requires.blank refl)) c.requires.room

pub bounds-at-q : goal.bounds-at-q
bounds-at-q c = omega (arith, count-few c.loop-q.invariant c.requires.source (omega arith), c.requires.short)

-- What is noted is the position of the one that is next.
pub bounds-out-x : goal.bounds-out-x
bounds-out-x c =
    let noted = c.requires.notes c.loop-q.q (one_left c.loop-q.invariant c.requires.source (omega arith)) in
    omega (arith, c.from-x.ensures, row_room c.loop-q.invariant c.requires.source (omega arith) noted)

pub loop-q-preserved : goal.loop-q-preserved
loop-q-preserved c =
    let noted = c.requires.notes c.loop-q.q (one_left c.loop-q.invariant c.requires.source (omega arith)) in
    rw c.from-x.ensures
    (scattered-one c.loop-q.invariant c.requires.source (omega arith) noted _ (read32 (get_or c.args.r.now c.loop-q.q (pos 0)) (search rules)))

pub returns : goal.returns
returns c = scattered-all c.loop-q.invariant c.requires.source (omega arith) (omega arith)
