-- Subsections of the name section are told apart by their bytes.
use Rattle.std.proofs.Common.{ℕ, ◌≡◌, List, [], ◌∷◌, ◌++◌, get_or, refl, sym, ap, ◌∙◌, arith}
use Rattle.wasm_encoder_base.specs.Bytes.{counted, sized}
use Rattle.wasm_encoder_base.specs.Unique.{Unique, Any}
use Rattle.wasm_encoder_base.proofs.UniqueBytes.{unique_list, unique_name, unique_sized}
use Rattle.wasm_encoder_base.proofs.UniqueLeb.{unique_uleb}
use Rattle.wasm_encoder_base.proofs.UniqueParts.{unique_pair, unique_via, unique_where, injective_of, cons_head, cons_tail}
use Rattle.wasm_encoder_custom.specs.Names.{Naming, naming_bytes, InnerNaming, inner_naming_bytes, Space, Functions, Types, Tables, Memories, Globals, Elements, DataSegments, Tags, InnerSpace, Locals, Labels, Fields, Parameters, TagParameters, number_of, inner_number_of, NameSubsection, ModuleName, Names, InnerNames, name_subsection_bytes}

unique_naming : Unique Any naming_bytes
unique_naming =
    unique_where (λ n _. (tt, tt))
    (unique_via {A = Naming} (λ n. (n.index, n.name)) (λ p. record { index = p.0; name = p.1 }) (λ n. refl) (unique_pair unique_uleb unique_name))

unique_inner_naming : Unique Any inner_naming_bytes
unique_inner_naming =
    unique_where (λ n _. (tt, tt))
    (unique_via {A = InnerNaming} (λ n. (n.index, n.names)) (λ p. record { index = p.0; names = p.1 }) (λ n. refl) (unique_pair unique_uleb (unique_list unique_naming)))

-- the contents of a subsection, in their size
unique_module : Unique Any (λ name. sized (sized name))
unique_module = unique_sized (injective_of unique_name)

unique_names : Unique Any (λ names. sized (counted naming_bytes names))
unique_names = unique_sized (injective_of (unique_list unique_naming))

unique_inner_names : Unique Any (λ names. sized (counted inner_naming_bytes names))
unique_inner_names = unique_sized (injective_of (unique_list unique_inner_naming))

-- what has a number; what kind of names that is: 0 of the module, 1 by an index, 2 by two
abbrev space_of : ℕ → Space
space_of n = get_or (Functions ∷ Functions ∷ Functions ∷ Functions ∷ Types ∷ Tables ∷ Memories ∷ Globals ∷ Elements ∷ DataSegments ∷ Functions ∷ Tags ∷ []) n Functions

abbrev inner_space_of : ℕ → InnerSpace
inner_space_of n = get_or (Locals ∷ Locals ∷ Locals ∷ Labels ∷ Locals ∷ Locals ∷ Locals ∷ Locals ∷ Locals ∷ Locals ∷ Fields ∷ Locals ∷ Parameters ∷ TagParameters ∷ []) n Locals

abbrev depth_of : ℕ → ℕ
depth_of n = get_or (0 ∷ 1 ∷ 2 ∷ 2 ∷ 1 ∷ 1 ∷ 1 ∷ 1 ∷ 1 ∷ 1 ∷ 2 ∷ 1 ∷ 2 ∷ 2 ∷ []) n 0

record IsNumbered (s : Space) : Type 0 where
  back : space_of (number_of s) ≡ s
  depth : depth_of (number_of s) ≡ 1

numbered : (s : Space) → IsNumbered s
numbered Functions = record { back = refl; depth = refl }
numbered Types = record { back = refl; depth = refl }
numbered Tables = record { back = refl; depth = refl }
numbered Memories = record { back = refl; depth = refl }
numbered Globals = record { back = refl; depth = refl }
numbered Elements = record { back = refl; depth = refl }
numbered DataSegments = record { back = refl; depth = refl }
numbered Tags = record { back = refl; depth = refl }

record IsInnerNumbered (s : InnerSpace) : Type 0 where
  back : inner_space_of (inner_number_of s) ≡ s
  depth : depth_of (inner_number_of s) ≡ 2

inner_numbered : (s : InnerSpace) → IsInnerNumbered s
inner_numbered Locals = record { back = refl; depth = refl }
inner_numbered Labels = record { back = refl; depth = refl }
inner_numbered Fields = record { back = refl; depth = refl }
inner_numbered Parameters = record { back = refl; depth = refl }
inner_numbered TagParameters = record { back = refl; depth = refl }

one : (x y : NameSubsection) (r s : List ℕ) → name_subsection_bytes x ++ r ≡ name_subsection_bytes y ++ s → (x ≡ y) × (r ≡ s)
one (ModuleName a) (ModuleName b) r s e = let h = unique_module.reads a b r s tt tt (cons_tail e) in (ap ModuleName h.0, h.1)
one (Names p xs) (Names q ys) r s e =
    let space : p ≡ q = sym (numbered p).back ∙ ap space_of (cons_head e) ∙ (numbered q).back in
    let names = unique_names.reads xs ys r s tt tt (cons_tail e) in
    (λ i. Names (space i) (names.0 i), names.1)
one (InnerNames p xs) (InnerNames q ys) r s e =
    let space : p ≡ q = sym (inner_numbered p).back ∙ ap inner_space_of (cons_head e) ∙ (inner_numbered q).back in
    let names = unique_inner_names.reads xs ys r s tt tt (cons_tail e) in
    (λ i. InnerNames (space i) (names.0 i), names.1)
one (ModuleName a) (Names q ys) r s e = absurd (omega (arith, ap depth_of (cons_head e), (numbered q).depth))
one (ModuleName a) (InnerNames q ys) r s e = absurd (omega (arith, ap depth_of (cons_head e), (inner_numbered q).depth))
one (Names p xs) (ModuleName b) r s e = absurd (omega (arith, ap depth_of (cons_head e), (numbered p).depth))
one (Names p xs) (InnerNames q ys) r s e = absurd (omega (arith, ap depth_of (cons_head e), (numbered p).depth, (inner_numbered q).depth))
one (InnerNames p xs) (ModuleName b) r s e = absurd (omega (arith, ap depth_of (cons_head e), (inner_numbered p).depth))
one (InnerNames p xs) (Names q ys) r s e = absurd (omega (arith, ap depth_of (cons_head e), (inner_numbered p).depth, (numbered q).depth))

pub unique_name_subsection : Unique Any name_subsection_bytes
unique_name_subsection = record { reads = λ x y r s _ _ e. one x y r s e }
