use Rattle.std.proofs.Common.{◌≡◌, ℕ, ◌+◌, List, ◌++◌, drop}
use Rattle.model.specs.Words.{read_from}
use Rattle.reader.specs.Reading.{sofar_of}
use Rattle.reader.proofs.draft.Draft.take_part.Given as goal

abbrev pub invariant-loop-i : goal.invariant-loop-i
invariant-loop-i l = (rest : List ℕ) → read_from (l.part.words.now ++ rest) l.part.place (sofar_of l.initial.self) ≡ read_from (drop l.i l.part.words.now ++ rest) (l.part.place + l.i) (sofar_of l.self)
