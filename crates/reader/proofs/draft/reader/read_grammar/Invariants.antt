use Rattle.std.proofs.Common.{◌≡◌, ◌+◌, length}
use Rattle.model.specs.Words.{read, read_from}
use Rattle.reader.specs.Entries.{words_left}
use Rattle.reader.specs.Reading.{sofar_of}
use Rattle.reader.proofs.draft.reader.read_grammar.Given as goal

abbrev pub invariant-loop-entry : goal.invariant-loop-entry
invariant-loop-entry l = record {
  so_far : read l.words ≡ read_from (words_left l.entry-iterator) l.entry-iterator.rest.place (sofar_of l.draft);
  all_left : l.entry-iterator.rest.place + length (words_left l.entry-iterator) ≡ length l.words;
}
