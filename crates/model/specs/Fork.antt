-- A worked example: the fork scheme. Below its root, symbol 1 forks in two or is a leaf; figures go up only, and each fork adds those of its two branches.
use Rattle.std.specs.Prelude.{[], ◌∷◌}
use Rattle.model.specs.Scheme.{synthesized, eval, visit, leave, Scheme}

abbrev pub fork : Scheme
fork = record {
  visits = 1 ∷ 1 ∷ [];
  attributes = record { symbol = 0; side = synthesized; visit = 1 } ∷ record { symbol = 1; side = synthesized; visit = 1 } ∷ [];
  productions =
      record { left = 0; children = 1 ∷ []; rules = record { number = 0; target = record { position = 0; attribute = 0 }; arguments = record { position = 1; attribute = 1 } ∷ [] } ∷ []; steps = visit 1 1 ∷ eval 0 ∷ leave 1 ∷ [] }
      ∷ record { left = 1; children = 1 ∷ 1 ∷ []; rules = record { number = 4; target = record { position = 0; attribute = 1 }; arguments = record { position = 1; attribute = 1 } ∷ record { position = 2; attribute = 1 } ∷ [] } ∷ []; steps = visit 1 1 ∷ visit 2 1 ∷ eval 0 ∷ leave 1 ∷ [] }
      ∷ record { left = 1; children = []; rules = record { number = 2; target = record { position = 0; attribute = 1 }; arguments = [] } ∷ []; steps = eval 0 ∷ leave 1 ∷ [] }
      ∷ [];
}
