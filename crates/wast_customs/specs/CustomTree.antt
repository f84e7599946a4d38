-- Custom fields as they are written: abstract syntax (WebAssembly 3.0, appendix "Custom Sections and Annotations", and the tool
-- conventions on producers and dynamic linking), over places of type P. No names stand in them.
use Rattle.std.specs.Prelude.{ℕ, List, codes}

-- the sections that a place may name
pub data Anchor : Type 0 where
  TypeItem : Anchor
  Import : Anchor
  Func : Anchor
  Table : Anchor
  Memory : Anchor
  Global : Anchor
  Export : Anchor
  Start : Anchor
  Elem : Anchor
  Code : Anchor
  Data : Anchor
  Tag : Anchor

-- where a custom section stands among the other sections
pub data CustomPlace : Type 0 where
  BeforeFirst : CustomPlace
  Before : Anchor → CustomPlace
  After : Anchor → CustomPlace
  AfterLast : CustomPlace

-- (@custom ..)
pub record RawSection (P : Type 0) : Type 0 where
  -- where the annotation's name stands
  pub place : P
  pub name : List ℕ
  pub section : CustomPlace
  -- its data, a list of bytes for each string
  pub strings : List (List ℕ)

-- what a producer did
pub data ProducerKind : Type 0 where
  Language : ProducerKind
  Sdk : ProducerKind
  ProcessedBy : ProducerKind

pub record Producer : Type 0 where
  pub kind : ProducerKind
  pub name : List ℕ
  pub version : List ℕ

-- (@producers ..)
pub record Producers (P : Type 0) : Type 0 where
  pub place : P
  pub fields : List Producer

-- a subsection of the section `dylink.0`; what is said of exports, and of imports, is a list
pub data Subsection : Type 0 where
  MemInfo : (memory_size memory_align table_size table_align : ℕ) → Subsection
  Needed : List (List ℕ) → Subsection
  -- names and flags
  ExportInfo : List (List ℕ × ℕ) → Subsection
  -- names of modules and of imports, and flags
  ImportInfo : List (List ℕ × (List ℕ × ℕ)) → Subsection
  RuntimePath : List (List ℕ) → Subsection

-- (@dylink.0 ..)
pub record Dylink (P : Type 0) : Type 0 where
  pub place : P
  pub subsections : List Subsection

pub data Custom (P : Type 0) : Type 0 where
  Raw : RawSection P → Custom P
  ProducersField : Producers P → Custom P
  DylinkField : Dylink P → Custom P

-- where its section stands, and what it is called
abbrev pub place_of : {P : Type 0} → Custom P → CustomPlace
place_of (Raw s) = s.section
place_of (ProducersField p) = AfterLast
place_of (DylinkField d) = BeforeFirst

abbrev pub name_of : {P : Type 0} → Custom P → List ℕ
name_of (Raw s) = s.name
name_of (ProducersField p) = codes "producers"
name_of (DylinkField d) = codes "dylink.0"

-- where the annotation's name stands
abbrev pub span_of : {P : Type 0} → Custom P → P
span_of (Raw s) = s.place
span_of (ProducersField p) = p.place
span_of (DylinkField d) = d.place
