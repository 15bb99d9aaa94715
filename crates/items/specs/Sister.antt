-- What the sister call answers.
use Rattle.meaning.specs.Item.{Item}
use Rattle.answer.specs.declared.Answer.{Answer}

abbrev pub item_answer : Item → Answer
item_answer y = record { number = y.number; shape = y.shape }
