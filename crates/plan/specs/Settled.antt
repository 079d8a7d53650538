-- What a plan says of its scheme.
use Rattle.std.specs.Prelude.{◌≡◌, List, map, vec_items}
use Rattle.model.specs.Scheme.{Scheme}
use Rattle.model.specs.Plan.{Letter, Planned}
use Rattle.model.specs.Spans.{Sections}
use Rattle.model.specs.Tables.{all_sections, tables, widest}
use Rattle.plan.specs.declared.plan.Plan.{Plan}
use Rattle.plan.specs.Views.{letter_of, sections_of, production_table_of}

abbrev pub letters_of : Plan → List Letter
letters_of p = map (λ a. letter_of a.letter) (vec_items p.attributes)

abbrev pub sections_in : Plan → List Sections
sections_in p = map (λ a. sections_of a.sections) (vec_items p.attributes)

pub record Settled (s : Scheme) (p : Plan) : Type 0 where
  -- each attribute has the letter whose condition holds
  pub planned : Planned s (letters_of p)
  -- the first and the last section of each attribute
  pub sectioned : sections_in p ≡ all_sections s
  -- of each step, the spans that open and close and how deep its values lie; of each production, its width
  pub tabulated : map production_table_of (vec_items p.productions) ≡ tables s (letters_of p)
  -- the width of the widest production
  pub widest_is : p.widest ≡ widest s (letters_of p)

-- two plans say the same
pub record Agree (p q : Plan) : Type 0 where
  pub same_letters : letters_of p ≡ letters_of q
  pub same_sections : sections_in p ≡ sections_in q
  pub same_tables : map production_table_of (vec_items p.productions) ≡ map production_table_of (vec_items q.productions)
  pub same_widest : p.widest ≡ q.widest
