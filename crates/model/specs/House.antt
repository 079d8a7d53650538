-- A worked example: the house scheme. Its root hands a figure down a chain of symbols 1, each of which adds to it, and takes the last figure back up.
use Rattle.std.specs.Prelude.{ℕ, List, [], ◌∷◌}
use Rattle.model.specs.Scheme.{inherited, synthesized, eval, visit, leave, Scheme}

abbrev pub house : Scheme
house = record {
  visits = 1 ∷ 1 ∷ [];
  attributes = record { symbol = 0; side = synthesized; visit = 1 } ∷ record { symbol = 1; side = inherited; visit = 1 } ∷ record { symbol = 1; side = synthesized; visit = 1 } ∷ [];
  productions =
      record { left = 0; children = 1 ∷ []; rules = record { number = 1; target = record { position = 1; attribute = 1 }; arguments = [] } ∷ record { number = 0; target = record { position = 0; attribute = 0 }; arguments = record { position = 1; attribute = 2 } ∷ [] } ∷ []; steps = eval 0 ∷ visit 1 1 ∷ eval 1 ∷ leave 1 ∷ [] }
      ∷ record { left = 1; children = 1 ∷ []; rules = record { number = 3; target = record { position = 1; attribute = 1 }; arguments = record { position = 0; attribute = 1 } ∷ [] } ∷ record { number = 0; target = record { position = 0; attribute = 2 }; arguments = record { position = 1; attribute = 2 } ∷ [] } ∷ []; steps = eval 0 ∷ visit 1 1 ∷ eval 1 ∷ leave 1 ∷ [] }
      ∷ record { left = 1; children = []; rules = record { number = 0; target = record { position = 0; attribute = 2 }; arguments = record { position = 0; attribute = 1 } ∷ [] } ∷ []; steps = eval 0 ∷ leave 1 ∷ [] }
      ∷ [];
}

abbrev pub house_words : List ℕ
house_words = 0x11000000 ∷ 0x21100000 ∷ 0x11000000 ∷ 0x20100000 ∷ 0x21100000 ∷ 0x30010000 ∷ 0x40100000 ∷ 0x50110100 ∷ 0x50000010 ∷ 0x61020000 ∷ 0x70000000 ∷ 0x81100000 ∷ 0x70100000 ∷ 0x91000000 ∷ 0x30110000 ∷ 0x40100000 ∷ 0x50310110 ∷ 0x60010000 ∷ 0x50000210 ∷ 0x61020000 ∷ 0x70000000 ∷ 0x81100000 ∷ 0x70100000 ∷ 0x91000000 ∷ 0x30100000 ∷ 0x50000210 ∷ 0x60010000 ∷ 0x70000000 ∷ 0x91000000 ∷ 0xf0000000 ∷ []
