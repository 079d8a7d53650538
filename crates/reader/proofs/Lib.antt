pub mod Arguments
pub mod RuleWord
