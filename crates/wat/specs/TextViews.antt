-- What the grammar sees of texts.
use Rattle.std.specs.Prelude.{ℕ}
use Rattle.wast_grammar.specs.Tokens.{Name}
use Rattle.wast_field_syntax.specs.FieldTree as spec
use Rattle.wast_core.specs.ModuleViews.{module_tree}
use Rattle.wat.specs.declared.text.Wat.{Wat}
use Rattle.wat.specs.declared.text.Wat.TheVariants as wats

abbrev pub wat_tree : Wat → spec.Module Name ℕ
wat_tree (wats.Module m) = module_tree m
