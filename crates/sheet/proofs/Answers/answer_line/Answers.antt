use Rattle.std.proofs.Common.{◌≡◌, refl, sym, ap, ◌++◌, ◌∙◌, rules}
use mir.Syntax.{w32}
use mir.Val.{SFits}
use mir.Facts.{to_z-of_z}
use Rattle.meaning.specs.Reply.{reply}
use Rattle.answer.specs.Answer.{lent, answer_of}
use Rattle.sheet_answer.specs.Answer.{reply_line}
use Rattle.sheet_answer.proofs.Joined.{bad-answer, good-answer, long-answer}
use Rattle.sheet.proofs.Answers.answer_line.Goals as goal

pub returns-in_default-clause-text : goal.returns-in_default-clause-text
returns-in_default-clause-text c whole o =
    let s = c.args.self.now in
    c.put_bad.ensures ∙ ap (λ l. s.text ++ l) (sym (long-answer s.line whole (rw c.in_default.is at o)))

pub returns-in_default-read_line-clause-text : goal.returns-in_default-read_line-clause-text
returns-in_default-read_line-clause-text c whole o =
    let s = c.args.self.now in
    let held : c.in-Some.held.now ≡ whole = rw c.in-Some.is at o in
    let bad =
    bad-answer s.line c.in-Some.held.now s.l s.r s.out (search rules) (search rules) (search rules) c.in_default-read_line.ensures.answer in
    c.put_bad-in_default-read_line.ensures ∙ ap (λ l. s.text ++ l) (rw held at (sym bad))

pub returns-clause-text : goal.returns-clause-text
returns-clause-text c whole o =
    let s = c.args.self.now in
    let held : c.in-Some.held.now ≡ whole = rw c.in-Some.is at o in
    let read = c.in-Some-read_line.read in
    let said = c.in-Some-read_line.ensures in
    let new = c.read_line.new in
    let primitive : SFits w32 read.primitive = search rules in
    let origin : SFits w32 read.origin = search rules in
    let k : SFits w32 read.k = search rules in
    let y = rw (to_z-of_z primitive, to_z-of_z origin, to_z-of_z k) at c.call-reply.ensures in
    let e : c.from.result ≡ answer_of (reply read.primitive read.origin read.k (lent read.left new.l) (lent read.right new.r) s.out) =
    c.from.ensures ∙ y.answer in
    let same =
    good-answer s.line c.in-Some.held.now s.l s.r s.out (search rules) (search rules) (search rules) read said.answer new.l new.r (said.left refl)
    (said.right refl) in
    c.put_reply.ensures
    ∙ ap (λ l. s.text ++ l)
    ((λ i. reply_line s.line (e i).number (record { shape = (e i).shape; buffer = y.buffer i })) ∙ rw held at same)
