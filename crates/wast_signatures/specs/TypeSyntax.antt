-- The syntax of signatures, composite types, type definitions and type uses (WebAssembly 3.0, 6.4 and 6.6).
use Rattle.std.specs.Prelude.{ℕ, Bool, true, false, List, [], ◌∷◌, map, Option, Some, None, codes}
use Rattle.std.specs.List.{flat_map}
use Rattle.wast_value_types.specs.Look.{Test, this_group, this_annotation, id_starts, index_starts, type_starts}
use Rattle.wast_value_types.specs.Grammar.{Syntax, word, seen, seq, maybe, many, either, group, paren}
use Rattle.wast_value_types.specs.Recursion.{fix}
use Rattle.wast_value_types.specs.Identifiers.{Named, Reference, identifier, index, name_annotation}
use Rattle.wast_value_types.specs.ValueTree.{ValType, FieldType}
use Rattle.wast_value_types.specs.WordSyntax.{optional}
use Rattle.wast_value_types.specs.ValueSyntax.{val_type, field_type, val_starts, field_starts}
use Rattle.wast_signatures.specs.TypeTree.{Local, Sig, StructField, InnerType, FuncType, StructType, ArrayType, ContType, CompType, TypeDef, TypeItem, Rec, TypeUse}

-- WHERE THEY BEGIN
abbrev pub given_starts : List Test
given_starts = this_annotation (codes "name") ∷ []

abbrev pub sig_starts : List Test
sig_starts = this_group (codes "param") ∷ this_group (codes "result") ∷ []

abbrev pub shared_starts : List Test
shared_starts = this_group (codes "shared") ∷ []

abbrev pub comp_starts : List Test
comp_starts = this_group (codes "shared") ∷ this_group (codes "func") ∷ this_group (codes "struct") ∷ this_group (codes "array") ∷ this_group (codes "cont") ∷ []

-- lists, one after the other
abbrev pub joined : {A : Type 0} → List (List A) → List A
joined xss = flat_map (λ xs. xs) xss

module _ {N P : Type 0} where
  abbrev pub given_name : Syntax N P (List ℕ)
  given_name = paren name_annotation

  -- SIGNATURES (6.4.5)
  -- parameters or locals in one group: (word id (@name ..)? t), (word (@name ..) t), (word t*)
  abbrev pub as_local : Named N P × (Option (List ℕ) × ValType N P) → List (Local N P)
  as_local l = record { id = Some l.0; given = l.1.0; val_type = l.1.1 } ∷ []

  abbrev pub as_given : List ℕ × ValType N P → List (Local N P)
  as_given l = record { id = None; given = Some l.0; val_type = l.1 } ∷ []

  abbrev pub unnamed : ValType N P → Local N P
  unnamed t = record { id = None; given = None; val_type = t }

  abbrev pub val_types : Syntax N P (List (ValType N P))
  val_types = many val_starts val_type

  abbrev pub named_locals : Syntax N P (List (Local N P))
  named_locals = either id_starts (seen as_local (seq identifier (seq (maybe given_starts given_name) val_type))) (either given_starts (seen as_given (seq given_name val_type)) (seen (map unnamed) val_types))

  abbrev pub locals : List ℕ → Syntax N P (List (Local N P))
  locals w = group w named_locals

  abbrev pub result : Syntax N P (List (ValType N P))
  result = group (codes "result") val_types

  -- groups of parameters, and then groups of results
  abbrev pub sig_groups : {A : Type 0} → Syntax N P (List A) → Syntax N P (List (List A) × List (List (ValType N P)))
  sig_groups param = seq (many (this_group (codes "param") ∷ []) param) (many (this_group (codes "result") ∷ []) result)

  abbrev pub param : Syntax N P (List (Local N P))
  param = locals (codes "param")

  abbrev pub as_sig : List (List (Local N P)) × List (List (ValType N P)) → Sig N P
  as_sig s = record { params = joined s.0; results = joined s.1 }

  abbrev pub sig : Syntax N P (Sig N P)
  sig = seen as_sig (sig_groups param)

  -- the same without identifiers and names
  abbrev pub bare_param : Syntax N P (List (ValType N P))
  bare_param = group (codes "param") val_types

  abbrev pub as_bare : List (List (ValType N P)) × List (List (ValType N P)) → Sig N P
  as_bare s = record { params = map unnamed (joined s.0); results = joined s.1 }

  abbrev pub bare_sig : Syntax N P (Sig N P)
  bare_sig = seen as_bare (sig_groups bare_param)

  -- COMPOSITE TYPES (6.4.6): (field id ft), (field ft*)
  abbrev pub as_field : Named N P × FieldType N P → List (StructField N P)
  as_field f = record { id = Some f.0; field_type = f.1 } ∷ []

  abbrev pub unnamed_field : FieldType N P → StructField N P
  unnamed_field t = record { id = None; field_type = t }

  abbrev pub named_fields : Syntax N P (List (StructField N P))
  named_fields = either id_starts (seen as_field (seq identifier field_type)) (seen (map unnamed_field) (many field_starts field_type))

  abbrev pub fields : Syntax N P (List (StructField N P))
  fields = group (codes "field") named_fields

  abbrev pub struct_type : Syntax N P (List (StructField N P))
  struct_type = seen joined (many (this_group (codes "field") ∷ []) fields)

  -- (func sig), (struct fld*), (array ft), (cont index)
  abbrev pub inner_type : Syntax N P (InnerType N P)
  inner_type =
      either (this_group (codes "func") ∷ []) (seen FuncType (group (codes "func") sig))
      (either (this_group (codes "struct") ∷ []) (seen StructType (group (codes "struct") struct_type))
      (either (this_group (codes "array") ∷ []) (seen ArrayType (group (codes "array") field_type)) (seen ContType (group (codes "cont") index))))

  -- one of these, or (shared comp), at any depth
  abbrev pub unshared : InnerType N P → CompType N P
  unshared t = record { shared = false; inner = t }

  abbrev pub as_shared : CompType N P → CompType N P
  as_shared t = record t { shared = true }

  abbrev pub comp_step : Syntax N P (CompType N P) → Syntax N P (CompType N P)
  comp_step comp = either shared_starts (seen as_shared (group (codes "shared") comp)) (seen unshared inner_type)

  abbrev pub comp_type : Syntax N P (CompType N P)
  comp_type = fix comp_starts false [] comp_step

  -- TYPE DEFINITIONS (6.4.7): comp alone is final; (sub final? index? comp). Before comp may stand (describes index) and
  -- (descriptor index).
  abbrev pub index_of : List ℕ → Syntax N P (Option (Reference N P))
  index_of w = maybe (this_group w ∷ []) (group w index)

  abbrev pub as_definition : Bool × (Option (Reference N P) × (Option (Reference N P) × (Option (Reference N P) × CompType N P))) → TypeDef N P
  as_definition d = record { is_final = d.0; supertype = d.1.0; describes = d.1.1.0; descriptor = d.1.1.1.0; comp = d.1.1.1.1 }

  abbrev pub described : Syntax N P (Option (Reference N P) × (Option (Reference N P) × CompType N P))
  described = seq (index_of (codes "describes")) (seq (index_of (codes "descriptor")) comp_type)

  abbrev pub sub_type : Syntax N P (TypeDef N P)
  sub_type = seen as_definition (seq (optional (codes "final")) (seq (maybe index_starts index) described))

  abbrev pub type_def : Syntax N P (TypeDef N P)
  type_def = either (this_group (codes "sub") ∷ []) (group (codes "sub") sub_type) (seen (λ d. as_definition (true, (None, d))) described)

  -- (type id? (@name ..)? def)
  abbrev pub as_type_item : P × (Option (Named N P) × (Option (List ℕ) × TypeDef N P)) → TypeItem N P
  as_type_item t = record { place = t.0; id = t.1.0; given = t.1.1.0; definition = t.1.1.1 }

  abbrev pub type_body : Syntax N P (TypeItem N P)
  type_body = seen as_type_item (seq (word (codes "type")) (seq (maybe id_starts identifier) (seq (maybe given_starts given_name) type_def)))

  abbrev pub type_item : Syntax N P (TypeItem N P)
  type_item = paren type_body

  -- (rec type*)
  abbrev pub as_rec : P × List (TypeItem N P) → Rec N P
  as_rec r = record { place = r.0; types = r.1 }

  abbrev pub rec_body : Syntax N P (Rec N P)
  rec_body = seen as_rec (seq (word (codes "rec")) (many type_starts type_item))

  abbrev pub rec_group : Syntax N P (Rec N P)
  rec_group = paren rec_body

  -- TYPE USES (6.6, type uses): (type index)? sig, where the signature is there if any group of it is
  abbrev pub as_inline : {A : Type 0} → (List (List A) × List (List (ValType N P)) → Sig N P) → List (List A) × List (List (ValType N P)) → Option (Sig N P)
  as_inline f ([], []) = None
  as_inline f s = Some (f s)

  abbrev pub as_use : Option (Reference N P) × Option (Sig N P) → TypeUse N P
  as_use u = record { index = u.0; inline = u.1 }

  abbrev pub use_of : Syntax N P (Option (Sig N P)) → Syntax N P (TypeUse N P)
  use_of inline = seen as_use (seq (index_of (codes "type")) inline)

  abbrev pub type_use : Syntax N P (TypeUse N P)
  type_use = use_of (seen (as_inline as_sig) (sig_groups param))

  -- the same without identifiers and names
  abbrev pub bare_use : Syntax N P (TypeUse N P)
  bare_use = use_of (seen (as_inline as_bare) (sig_groups bare_param))
