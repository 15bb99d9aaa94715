use Rattle.std.proofs.Common.{rules, ◌≡◌, ◌<◌, length}
use Rattle.transposes.proofs.Passing.{opened}
use Rattle.transposes.proofs.Offsets.{into-none, into-some, into-walk, into-all}
use Rattle.transposes.proofs.transpose_into.Goals as goal

pub returns-then-is_empty : goal.returns-then-is_empty
returns-then-is_empty c = let z : length c.args.out.now ≡ 0 = search rules in into-none c.args.out.now c.requires z

pub strides-steps-requires : goal.strides-steps-requires
strides-steps-requires c =
    let some : 0 < length c.args.out.now = search rules in
    into-some (opened c.sent.view_is c.sent.invariant c.r.view_is c.r.invariant) c.requires some

pub walk-requires : goal.walk-requires
walk-requires c =
    let some : 0 < length c.args.out.now = search rules in
    into-walk (opened c.sent.view_is c.sent.invariant c.r.view_is c.r.invariant) c.requires _ c.strides-steps.ensures some

pub returns : goal.returns
returns c = into-all (opened c.sent.view_is c.sent.invariant c.r.view_is c.r.invariant) c.requires _ c.strides-steps.ensures c.walk.ensures
