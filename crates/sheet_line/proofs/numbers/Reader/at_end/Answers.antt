use Rattle.std.proofs.Common.{◌≡◌, ℕ, Bool, true, false, not, List, [], Option, Some, None, Bor, IsTrue, refl, sym, arith}
use Rattle.std.specs.Option.{is_some}
use mathlib.Core.Option.{some}
use Rattle.shape.proofs.Bools.{no_way}
use Rattle.sheet_line.specs.Steps.{left}
use Rattle.sheet_line.proofs.Round.{read-is-printing}
use Rattle.sheet_line.proofs.numbers.Reader.at_end.Goals as goal

-- A number is left where bytes are left, or they are bad.
end-is : (rest : Option (Bor (List ℕ))) (b : Bool) → is_some rest ≡ not b → (IsTrue b → left rest ≡ some []) × (left rest ≡ some [] → IsTrue b)
end-is None true e = (λ t. refl, λ q. refl)
end-is None false e = no_way e
end-is (Some bytes) true e = no_way (sym e)
end-is (Some bytes) false e = (λ t. no_way t, λ q. absurd (omega (arith, (read-is-printing bytes.now [] q).some_number)))

pub returns : goal.returns
returns c = rw c.self.view_is at (end-is c.self.inside.rest c.is_none.result c.is_none.ensures)
