use Rattle.std.proofs.Common.{◌*◌, ◌+◌, sym, ap, ◌∙◌, rules, tests}
use Rattle.std.specs.Option.{option_map}
use Rattle.std.proofs.lemmas.Iterator.{YieldsList-from_slice}
use Rattle.std.proofs.lemmas.Iterator.Search.{position_from_yields_List}
use Rattle.sheet.proofs.Search.{is-newline, in-blocks, place-in}
use Rattle.sheet.proofs.newline_in.Goals as goal

pub returns-in_err-block : goal.returns-in_err-block
returns-in_err-block c =
    let blocks = c.chunks.ensures in
    let found =
    in-blocks _ _ (λ x q k. search (rules, tests)) c.args.bytes.now c.chunks.result _ c.position.result _ blocks.rest blocks.size c.position.ensures.ran in
    c.from_residual.ensures ∙ sym (rw c.in_err-block.was at found)

pub returns-in_err-place : goal.returns-in_err-place
returns-in_err-place c =
    let blocks = c.chunks.ensures in
    let found =
    in-blocks _ _ (λ x q k. search (rules, tests)) c.args.bytes.now c.chunks.result _ c.position.result _ blocks.rest blocks.size c.position.ensures.ran in
    let start = c.in_ok-block.block * 64 in
    let rest = YieldsList-from_slice _ c.iter.ensures.rest in
    let place =
    position_from_yields_List is-newline _ _ c.position-2.result c.position-2.ensures.ran rest (λ x b q k. search (rules, tests)) in
    c.from_residual-in_err-place.ensures
    ∙ sym (rw c.in_ok-block.was at found
    ∙ ap (option_map (λ k. start + k)) (place-in c.args.bytes.now start _ (sym c.in_err-place.was ∙ place)))

pub returns : goal.returns
returns c =
    let blocks = c.chunks.ensures in
    let found =
    in-blocks _ _ (λ x q k. search (rules, tests)) c.args.bytes.now c.chunks.result _ c.position.result _ blocks.rest blocks.size c.position.ensures.ran in
    let start = c.in_ok-block.block * 64 in
    let rest = YieldsList-from_slice _ c.iter.ensures.rest in
    let place =
    position_from_yields_List is-newline _ _ c.position-2.result c.position-2.ensures.ran rest (λ x b q k. search (rules, tests)) in
    sym (rw c.in_ok-block.was at found ∙ ap (option_map (λ k. start + k)) (place-in c.args.bytes.now start _ (sym c.in_ok-place.was ∙ place)))
