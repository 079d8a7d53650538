-- What is asked of one occurrence of a production and the rules that define it.
use Rattle.std.specs.Prelude.{ℕ, zero, suc}
use Rattle.model.specs.Scheme.{Side, inherited, synthesized, Occurrence, Production, Scheme, same_occurrence}
use Rattle.model.specs.Lawful.{Defined, Once}

-- the side of the attributes that a production defines at a position
abbrev pub side_defined : ℕ → Side
side_defined zero = synthesized
side_defined (suc k) = inherited

-- where the occurrence is a defined one, it has exactly one rule
abbrev pub RuledOnce : Scheme → Production → Occurrence → Type 0
RuledOnce s p o = Defined s p o → Once (λ r. same_occurrence o r.target) p.rules
