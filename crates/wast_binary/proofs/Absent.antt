-- What is appended of a section that is absent.
use Rattle.std.proofs.Common.{◌≡◌, ℕ, false, List, [], ◌∷◌, map, Option, Some, None, Ok, sym, subst, append-nil}
use Rattle.std.specs.Prelude.{is_some}
use Rattle.std.specs.List.{AllByRecursion}
use Rattle.wasm_layout.specs.AbstractModule.{AbstractModule}
use Rattle.wasm_layout.specs.IsModule.{IsU32, IfThere, IsEntry, IsImport, IsTable, IsGlobal, IsExport, IsElement, IsData, IsLimits}
use Rattle.wasm_layout.specs.Layout.{Known, if_there, section}
use Rattle.wasm_layout.specs.Lays.{RunsFit}
use Rattle.wasm_layout.specs.Present.{has_any, is_present}
use Rattle.wasm_layout.specs.Section.{SectionKind, Types, Imports, Functions, Tables, Memories, Tags, Globals, Exports, Starts, Elements, DataCount, Hints, Codes, Datas, Names}
use Rattle.wast_section_items.specs.Sound.{TypeSound, BodySound}
use Rattle.wast_binary.specs.Parts.{KindSound}
use Rattle.wast_binary.specs.Puts.{Puts}
use Rattle.wast_binary.proofs.Gives.{not_so}

none_sound : {A : Type 0} (P : A → Type 0) (xs : List A) → has_any xs ≡ false → AllByRecursion P xs
none_sound P [] e = tt
none_sound P (x ∷ xs) e = not_so e

start_sound : (start : Option ℕ) → is_some start ≡ false → IfThere IsU32 start
start_sound None e = tt
start_sound (Some n) e = not_so e

module _ (m : AbstractModule (List ℕ)) where
  absent_sound : (kind : SectionKind) → is_present m kind ≡ false → KindSound m kind
  absent_sound Types e = none_sound IsEntry m.types e
  absent_sound Imports e = none_sound IsImport m.imports e
  absent_sound Functions e = none_sound TypeSound m.functions e
  absent_sound Tables e = none_sound IsTable m.tables e
  absent_sound Memories e = none_sound IsLimits m.memories e
  absent_sound Tags e = none_sound IsU32 m.tags e
  absent_sound Globals e = none_sound IsGlobal m.globals e
  absent_sound Exports e = none_sound IsExport m.exports e
  absent_sound Starts e = start_sound m.start e
  absent_sound Elements e = none_sound IsElement m.elements e
  absent_sound DataCount e = tt
  absent_sound Hints e = tt
  absent_sound Codes e = (none_sound BodySound m.functions e, none_sound RunsFit m.functions e)
  absent_sound Datas e = none_sound IsData m.datas e
  absent_sound Names e = tt

  pub nothing_put : (kind : SectionKind) (before : List ℕ) → is_present m kind ≡ false → Puts m (map Known (if_there (is_present m kind) (section m kind))) (KindSound m kind) before before (Ok tt)
  nothing_put kind before e =
      subst (λ there. Puts m (map Known (if_there there (section m kind))) (KindSound m kind) before before (Ok tt)) (sym e)
      (record { put = sym (append-nil before); sizes = tt; sound = absent_sound kind e; too_large = λ t whole sizes. cc })
