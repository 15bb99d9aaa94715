use Rattle.std.proofs.Common.{◌≡◌, ◌==◌, ◌∙◌, rules}
use Rattle.std.specs.List.{count_by}
use Rattle.sheet_line.specs.Text.{newline}
use Rattle.sheet.proofs.Search.{newlines-count}
use Rattle.sheet.proofs.count_newlines.Goals as goal

pub returns : goal.returns
returns c =
    let text = c.args.text.now in
    let counted : c.count.result ≡ count_by (λ b. b == newline) text = search rules in
    counted ∙ newlines-count text
