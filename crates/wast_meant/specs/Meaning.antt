-- The module that a tree stands for (WebAssembly 3.0, 6.6): what stands inline is written out, what is left out and the indices of names are
-- numbers, identifiers are names of maps.
use Rattle.std.specs.Prelude.{ℕ, ◌≡◌, Bool, List, [], ◌∷◌, map, slice_get, Option, None}
use Rattle.std.specs.List.{flat_map}
use Rattle.wast_names.specs.Walk.{first_unmet}
use Rattle.wast_names.specs.Demand.{is_met}
use Rattle.wast_field_syntax.specs.FieldTree.{Field, Content, Fields, Pieces, Module}
use Rattle.wast_meaning.specs.Demands.{all_demands}
use Rattle.wast_meaning.specs.Numbered.{resolved}
use Rattle.wast_meaning.specs.WellFormed.{breaches}
use Rattle.wasm_layout.specs.AbstractModule.{AbstractModule}
use Rattle.wasm_layout.specs.Present.{is_present}
use Rattle.wast_meant.specs.FieldsMeant.{types_of, imports_of, defined_in, functions_of, tables_of, memories_of, tags_of, globals_of, exports_of, starts_of, elements_of, datas_of}
use Rattle.wast_meant.specs.NamesMeant.{GivenName, given_name, names_of, bodies_in, hints_from}
use Rattle.wast_meant.specs.CustomsMeant.{custom_of, customs_in, gaps}
use Rattle.wast_meant.specs.Covered.{uncovered}

module _ {N P : Type 0} (eq : N → N → Bool) (is_made : N → Bool) where
  -- a module of fields that are resolved, apart from its custom sections
  abbrev pub without_customs : Option (GivenName N) → List (Field N P) → AbstractModule (GivenName N)
  without_customs name fs = record {
    types = flat_map types_of fs;
    imports = flat_map imports_of fs;
    functions = flat_map functions_of (flat_map defined_in fs);
    tables = flat_map tables_of (flat_map defined_in fs);
    memories = flat_map memories_of (flat_map defined_in fs);
    tags = flat_map tags_of (flat_map defined_in fs);
    globals = flat_map globals_of (flat_map defined_in fs);
    exports = flat_map exports_of fs;
    start = slice_get (flat_map starts_of fs) 0;
    elements = flat_map elements_of fs;
    datas = flat_map datas_of fs;
    names = names_of is_made eq fs name;
    hints = hints_from 0 (flat_map bodies_in fs);
    customs = [];
  }

  -- with them, wherever they stand: one that is called `name` keeps the section of names away
  abbrev pub with_customs : List (Field N P) → AbstractModule (GivenName N) → AbstractModule (GivenName N)
  with_customs fs m = record m { customs = gaps (flat_map customs_in fs) (is_present (record m { customs = map custom_of (flat_map customs_in fs) ∷ [] })) }

  abbrev pub meant : Option (GivenName N) → List (Field N P) → AbstractModule (GivenName N)
  meant name fs = with_customs fs (without_customs name fs)

  -- Fields stand for m, given the names that are made for them: they are well formed, meet all demands, are covered, and m is read off what
  -- they are resolved to. That the numbers of m are in range is said with its binary (`Lays`).
  pub record FieldsMean (naming : ℕ → N) (name : Option (GivenName N)) (fs : List (Field N P)) (m : AbstractModule (GivenName N)) : Type 0 where
    pub is_formed : breaches eq is_made fs ≡ []
    pub are_met : first_unmet is_met (all_demands eq naming fs) ≡ None
    pub is_covered : uncovered naming fs ≡ None
    pub is_meant : m ≡ meant name (resolved eq naming fs)

  abbrev pub ContentMeans : (ℕ → N) → Option (GivenName N) → Content N P → AbstractModule (GivenName N) → Type 0
  ContentMeans naming name (Fields fs) m = FieldsMean naming name fs m
  ContentMeans naming name (Pieces pieces) m = ⊥

  -- a tree stands for m
  abbrev pub Meaning : (ℕ → N) → Module N P → AbstractModule (GivenName N) → Type 0
  Meaning naming t m = ContentMeans naming (given_name is_made t.given t.id) t.content m
