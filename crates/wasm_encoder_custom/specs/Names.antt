-- The name section (WebAssembly 3.0, the appendix on custom sections): subsections, each with its number.
use Rattle.std.specs.Prelude.{ℕ, List, ◌++◌, codes}
use Rattle.wasm_encoder_base.specs.Bytes.{counted, sized}
use Rattle.wasm_encoder_base.specs.Leb.{uleb}
use Rattle.wasm_encoder_custom.specs.Custom.{Custom, custom, subsection}

-- the section by its data, which is its subsections
abbrev pub name_section : List ℕ → Custom
name_section subsections = custom (codes "name") subsections

-- an index and its name
pub record Naming : Type 0 where
  pub index : ℕ
  pub name : List ℕ

abbrev pub naming_bytes : Naming → List ℕ
naming_bytes naming = uleb naming.index ++ sized naming.name

-- an index, and the names of what is inside it: of locals inside a function, say
pub record InnerNaming : Type 0 where
  pub index : ℕ
  pub names : List Naming

abbrev pub inner_naming_bytes : InnerNaming → List ℕ
inner_naming_bytes naming = uleb naming.index ++ counted naming_bytes naming.names

-- what a list of names is of
pub data Space : Type 0 where
  Functions : Space
  Types : Space
  Tables : Space
  Memories : Space
  Globals : Space
  Elements : Space
  DataSegments : Space
  Tags : Space

-- what a list of lists of names is of
pub data InnerSpace : Type 0 where
  Locals : InnerSpace
  Labels : InnerSpace
  Fields : InnerSpace
  Parameters : InnerSpace
  TagParameters : InnerSpace

abbrev pub number_of : Space → ℕ
number_of Functions = 1
number_of Types = 4
number_of Tables = 5
number_of Memories = 6
number_of Globals = 7
number_of Elements = 8
number_of DataSegments = 9
number_of Tags = 11

abbrev pub inner_number_of : InnerSpace → ℕ
inner_number_of Locals = 2
inner_number_of Labels = 3
inner_number_of Fields = 10
inner_number_of Parameters = 12
inner_number_of TagParameters = 13

pub data NameSubsection : Type 0 where
  ModuleName : List ℕ → NameSubsection
  Names : Space → List Naming → NameSubsection
  InnerNames : InnerSpace → List InnerNaming → NameSubsection

abbrev pub name_subsection_bytes : NameSubsection → List ℕ
name_subsection_bytes (ModuleName name) = subsection 0 (sized name)
name_subsection_bytes (Names space names) = subsection (number_of space) (counted naming_bytes names)
name_subsection_bytes (InnerNames space names) = subsection (inner_number_of space) (counted inner_naming_bytes names)
