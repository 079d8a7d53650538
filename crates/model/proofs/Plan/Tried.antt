-- The plans of the worked schemes.
use Rattle.std.proofs.Common.{◌≡◌, List, [], ◌∷◌, refl, subst}
use Rattle.model.specs.Formed.{Formed}
use Rattle.model.specs.Words.{words_of}
use Rattle.model.specs.House.{house}
use Rattle.model.specs.Fork.{fork}
use Rattle.model.specs.Plan.{Letter, C, S, K, Planned}
use Rattle.model.proofs.Words.ReadForm.{read-formed}
use Rattle.model.proofs.Plan.Plans.{plan_of, plan_fits}

-- what is read from words is in form
house-formed : Formed house
house-formed = read-formed (words_of house) house refl

fork-formed : Formed fork
fork-formed = read-formed (words_of fork) fork refl

house_letters : plan_of house ≡ K ∷ C ∷ C ∷ []
house_letters = refl

fork_letters : plan_of fork ≡ K ∷ S ∷ []
fork_letters = refl

pub house-planned : Planned house (K ∷ C ∷ C ∷ [])
house-planned = subst (λ (ls : List Letter). Planned house ls) house_letters (plan_fits house house-formed)

pub fork-planned : Planned fork (K ∷ S ∷ [])
fork-planned = subst (λ (ls : List Letter). Planned fork ls) fork_letters (plan_fits fork fork-formed)
