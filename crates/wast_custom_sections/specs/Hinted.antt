-- What private contracts say of bodies: where their instructions begin, and the functions that have hints.
use Rattle.std.specs.Prelude.{ℕ, ◌≡◌, ◌+◌, ◌-◌, ◌<◌, ◌^◌, min, List, [], map, length, Option, Some, None, Result, OnOk, IsErrOf, slice_index, All}
use Rattle.std.specs.List.{flat_map, range_with_len}
use Rattle.wasm_encoder_base.specs.EncodeError.{EncodeError}
use Rattle.wasm_encoder_base.specs.EncodeError.TheVariants.{TooLarge}
use Rattle.wasm_encoder_base.specs.Lists.{Listed, listed}
use Rattle.wasm_encoder_code.specs.Body.{Body, place_of}
use Rattle.wasm_encoder_custom.specs.BranchHints as offsets
use Rattle.wasm_encoder_custom.specs.BranchHints.{function_hints_bytes}
use Rattle.wasm_encoder_custom.specs.declared.branch_hints.BranchHint.{BranchHint}
use Rattle.wast_signatures.specs.TypeTree.{Local}
use Rattle.wast_expressions.specs.Items.{Hint}
use Rattle.wast_module_fields.specs.FieldTree.{Expr, Function}
use Rattle.wast_conversions.specs.Types.{val_meant}
use Rattle.wast_conversions.specs.Instructions.{instrs_meant}
use Rattle.wasm_layout.specs.IsModule.{IsU32}
use Rattle.wasm_layout.specs.Present.{has_any}
use Rattle.wasm_layout.specs.Layout.{if_there}
use Rattle.wast_meant.specs.NamesMeant.{entries}
use Rattle.wast_custom_sections.specs.Parts.{joined}
use Rattle.wast_custom_sections.specs.Hints.{PlacesFit}

-- PLACES of a body's instructions, and that of its end
abbrev pub places_of : Body → List ℕ
places_of b = map (place_of b) (range_with_len 0 (length b.instructions + 1))

-- a hint at the place of its instruction
abbrev pub placed_at : Body → Hint → BranchHint
placed_at b h = record { branch_func_offset = place_of b h.index; branch_hint_value = h.value }

-- the same by these places, of which the last is that of the end
abbrev pub among : List ℕ → Hint → BranchHint
among places h = record { branch_func_offset = slice_index places (min h.index (length places - 1)); branch_hint_value = h.value }

-- HINTED: a function that has hints, by its number
pub record Hinted : Type 0 where
  pub number : ℕ
  pub body : Body
  pub hints : List Hint

abbrev pub placed : Hinted → offsets.FunctionHints
placed h = record { function_index = h.number; hints = map (placed_at h.body) h.hints }

abbrev pub hinted_bytes : Hinted → List ℕ
hinted_bytes h = function_hints_bytes (placed h)

pub record HintedFits (h : Hinted) : Type 0 where
  pub number : IsU32 h.number
  pub body : PlacesFit h.body

module _ {N P : Type 0} where
  -- a body by its locals and its expression (6.6, functions)
  abbrev pub body_meant : List (Local N P) → Expr N P → Body
  body_meant locals e = record { locals = map (λ l. val_meant l.val_type) locals; instructions = instrs_meant e.instrs }

  abbrev pub with_hints : ℕ → List (Local N P) → Expr N P → Hinted
  with_hints n locals e = record { number = n; body = body_meant locals e; hints = e.hints }

  -- the functions that have hints, from a number on
  abbrev pub hinted : ℕ → Option (Function N P) → List Hinted
  hinted n None = []
  hinted n (Some f) = if_there (has_any f.body.hints) (with_hints n f.locals f.body)

  abbrev pub hinted_from : ℕ → List (Option (Function N P)) → List Hinted
  hinted_from n os = entries hinted n os

-- These stand behind what the list had before, and they fit; it was too large only where one doesn't, or where all bytes are past 32 bits.
pub record AddsHinted (hs : List Hinted) (before after : Listed) (result : Result (Unit {0}) EncodeError) : Type 0 where
  pub added : OnOk result (after ≡ joined before (listed hinted_bytes hs))
  pub fit : OnOk result (All HintedFits hs)
  pub too_large : IsErrOf result TooLarge → All HintedFits hs → before.count + length (flat_map hinted_bytes hs) < 2 ^ 32 → ⊥
