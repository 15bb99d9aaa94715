use Rattle.std.proofs.Common.{refl, ◌<◌, ◌≤◌, ◌-◌, ◌^◌, ◌⊎◌, inl, inr, ◌++◌, ap, take, length, arith, rules}
use Rattle.std.specs.Io.KnownBytes.{Consumes, IsAtEnd}
use Rattle.std.proofs.KnownBytes.{Consumes-trans, Consumes-kept}
use Rattle.sheet.proofs.Run.{first, whole_line, cut_among, cut_after, goes_on, none_read, all_answered, cut_last, ended_on}
use Rattle.sheet.proofs.answer_all.Goals as goal
use Rattle.sheet.proofs.answer_all.Goals.{else-loop-test, then-loop-test+in-Ok+then-n-eq0}

pub loop-init : goal.loop-init
loop-init g c = first _ _ c.new-sheet.result c.new-sheet.ensures

pub returns-in-Err : goal.returns-in-Err
returns-in-Err g c =
    let i = c.loop.invariant in
    (i.bytes, Consumes-kept _ _ _ i.bytes i.read c.in-Err.ensures.bytes, (i.kept.sent, whole_line i c.last_whole.result c.last_whole.ensures))

pub returns-in_err-take_chunk : goal.returns-in_err-take_chunk
returns-in_err-take_chunk g c =
    let i = c.loop.invariant in
    let more = take c.in-Ok.n c.read.new.buf in (
      i.bytes ++ more,
      Consumes-trans _ _ _ i.bytes more i.read c.in-Ok.ensures.bytes.0,
      ended_on _ _ c.from_residual.result _ c.from_residual.ensures.1 (cut_among i more c.in_err-take_chunk.ensures.short),
    )

pub returns-in_err-write : goal.returns-in_err-write
returns-in_err-write g c =
    let i = c.loop.invariant in
    let more = take c.in-Ok.n c.read.new.buf in
    let taken = c.in_ok-take_chunk.ensures in (
      i.bytes ++ more,
      Consumes-trans _ _ _ i.bytes more i.read c.in-Ok.ensures.bytes.0,
      ended_on _ _ c.from_residual-in_err-write.result _ c.from_residual-in_err-write.ensures.1
          (cut_after i more c.take_chunk.new.self taken.taken taken.sent c.in_err-write.ensures.short),
    )

pub loop-preserved : goal.loop-preserved
loop-preserved g c =
    let i = c.loop.invariant in
    let more = take c.in-Ok.n c.read.new.buf in
    let taken = c.in_ok-take_chunk.ensures in
    let some : 0 < length more = search rules in
    let written = c.in_ok-write.ensures in
    goes_on i more c.take_chunk.new.self _ c.in-Ok.ensures.bytes.0 some taken.taken taken.sent written.sent written.none.0 written.none.1 refl

-- What was read when the loop ends.
pub returns-in_err-end : goal.returns-in_err-end
returns-in_err-end g c =
    let i = c.loop.invariant in
    let remaining = g.R.Read.remaining in
    let read : Consumes (remaining c.args.source.now) (remaining c.loop-test.source) i.bytes =
    elim c.loop-test.branch [
      | else-loop-test w ↦ rw w.source-is i.read
      | then-loop-test+in-Ok+then-n-eq0 w ↦ rw w.source-is
          (none_read _ _ _ i.bytes (take w.in-Ok.n w.read.new.buf) i.read w.in-Ok.ensures.bytes.0 (ap (λ n. take n w.read.new.buf) w.if-n-eq0.true))
    ] in
    (i.bytes, read, ended_on _ _ c.from_residual-in_err-end.result _ c.from_residual-in_err-end.ensures.1 (cut_last i c.in_err-end.ensures.short))

pub returns : goal.returns
returns g c =
    let i = c.loop.invariant in
    let remaining = g.R.Read.remaining in
    let read : Consumes (remaining c.args.source.now) (remaining c.loop-test.source) i.bytes =
    elim c.loop-test.branch [
      | else-loop-test w ↦ rw w.source-is i.read
      | then-loop-test+in-Ok+then-n-eq0 w ↦ rw w.source-is
          (none_read _ _ _ i.bytes (take w.in-Ok.n w.read.new.buf) i.read w.in-Ok.ensures.bytes.0 (ap (λ n. take n w.read.new.buf) w.if-n-eq0.true))
    ] in
    let ended : IsAtEnd (remaining c.loop-test.source) ⊎ (2 ^ 64 - 1 ≤ length i.bytes) =
    elim c.loop-test.branch [
      | else-loop-test w ↦ inr (omega (arith, i.many, w.loop-test.false))
      | then-loop-test+in-Ok+then-n-eq0 w ↦ inl (rw w.source-is (w.in-Ok.ensures.bytes.1 w.if-n-eq0.true (search rules)))
    ] in
    (i.bytes, read, (all_answered i _ c.in_ok-end.ensures.sent, ended))
