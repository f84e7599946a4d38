-- Where the tables and memories of segments begin, and groups of instructions.
use Rattle.std.proofs.Common.{ℕ, List, [], ◌∷◌, Some, inr, refl}
use Rattle.std.specs.Prelude.{◌-◌, ◌^◌, None}
use Rattle.wast_parser.specs.Tokens.{Id}
use Rattle.wast_parser.specs.Look.{this_group, integer_starts}
use Rattle.wast_parser.specs.Grammar.{among}
use Rattle.wast_parser.specs.Lawful.{Lawful, Leads}
use Rattle.wast_parser.specs.Integers.{unsigned}
use Rattle.wast_parser.specs.Identifiers.{ByName, index}
use Rattle.wast_parser.proofs.GrammarLaws.{among_laws, seen_laws, paren_laws}
use Rattle.wast_parser.proofs.LeadLaws.{among_leads, seen_leads, either_leads, paren_leads, group_leads}
use Rattle.wast_parser.proofs.IntegerLaws.{number_leads}
use Rattle.wast_parser.proofs.IdentifierLaws.{index_laws}
use Rattle.wast_mnemonics.specs.TextTable.{TextEntry, text_table}
use Rattle.wast_field_syntax.specs.DefinitionSyntax.{plain_starts, lone_instruction}
use Rattle.wast_field_syntax.specs.ElemSyntax.{use_starts_of, use_of}

abbrev mnemonic : TextEntry → List ℕ
mnemonic t = t.mnemonic

module _ {N P : Type 0} where
  -- SEGMENTS: the table or the memory, of types that have names and places
  pub use_of_leads : (w : List ℕ) → N → P → Leads (use_of {N = N} {P = P} w).spells (use_starts_of w)
  use_of_leads w n p =
      either_leads _ _ (this_group w ∷ []) integer_starts
      (group_leads w index index_laws (ByName (n, p)) (Id (Some n) p ∷ []) (inr ((n, p), refl, (Id (Some n) p, refl, refl))))
      (seen_leads _ _ integer_starts (number_leads (2 ^ 32 - 1) None unsigned)) refl refl refl

  -- INSTRUCTIONS in parentheses
  pub lone_instruction_laws : Lawful (lone_instruction {N = N} {P = P})
  lone_instruction_laws = seen_laws _ _ (paren_laws _ (among_laws mnemonic text_table []) refl refl)

  pub lone_instruction_leads : Leads (lone_instruction {N = N} {P = P}).spells plain_starts
  lone_instruction_leads = seen_leads _ _ plain_starts (paren_leads (among mnemonic text_table []) (among_laws mnemonic text_table []) _ (among_leads mnemonic text_table []) refl refl refl refl refl)
