-- The stops of the code, one after another.
use Rattle.std.proofs.Common.{◌≡◌, ℕ, ◌+◌, ◌<◌, ◌≤◌, List, [], ◌∷◌, get_or, Option, Result, Ok, Err, sym, subst}
use Rattle.std.specs.List.{AllByRecursion}
use Rattle.std.proofs.Math.ListN.{get_or-map}
use Rattle.wasm_encoder_base.specs.EncodeError.{EncodeError}
use Rattle.wast_grammar.specs.Tokens.{Name}
use Rattle.wast_parser.specs.Identifiers.{Named}
use Rattle.wast_customs.specs.declared.place.CustomPlace.TheVariants as places
use Rattle.wast_customs.specs.declared.place.CustomPlaceAnchor.TheVariants as anchors
use Rattle.wast_module_fields.specs.FieldTree.{Field}
use Rattle.wasm_layout.specs.AbstractModule.{AbstractModule}
use Rattle.wasm_layout.specs.Layout.{pieces}
use Rattle.wast_meant.specs.CustomsMeant.{stops}
use Rattle.wast_binary.specs.Parts.{module_of, pieces_of, StopSound}
use Rattle.wast_binary.specs.Puts.{Puts}
use Rattle.wast_binary.specs.Views.{stop_view}
use Rattle.wast_binary.specs.declared.stop.Kind.TheVariants as kinds
use Rattle.wast_binary.specs.declared.stop.Stop.{Stop}
use Rattle.wast_binary.specs.declared.stop.Stop.TheVariants.{At, Of}
use Rattle.wast_binary.proofs.Laid.{PutSoFar, one_more, all_put, all_sizes, all_sound, one_too_large}

-- in the order of the code
abbrev pub code_stops : List Stop
code_stops =
    At places.BeforeFirst
    ∷ At (places.Before anchors.TypeItem) ∷ Of kinds.Types ∷ At (places.After anchors.TypeItem)
    ∷ At (places.Before anchors.Import) ∷ Of kinds.Imports ∷ At (places.After anchors.Import)
    ∷ At (places.Before anchors.Func) ∷ Of kinds.Functions ∷ At (places.After anchors.Func)
    ∷ At (places.Before anchors.Table) ∷ Of kinds.Tables ∷ At (places.After anchors.Table)
    ∷ At (places.Before anchors.Memory) ∷ Of kinds.Memories ∷ At (places.After anchors.Memory)
    ∷ At (places.Before anchors.Tag) ∷ Of kinds.Tags ∷ At (places.After anchors.Tag)
    ∷ At (places.Before anchors.Global) ∷ Of kinds.Globals ∷ At (places.After anchors.Global)
    ∷ At (places.Before anchors.Export) ∷ Of kinds.Exports ∷ At (places.After anchors.Export)
    ∷ At (places.Before anchors.Start) ∷ Of kinds.Starts ∷ At (places.After anchors.Start)
    ∷ At (places.Before anchors.Elem) ∷ Of kinds.Elements ∷ At (places.After anchors.Elem)
    ∷ Of kinds.DataCount
    ∷ At (places.Before anchors.Code) ∷ Of kinds.Hints ∷ Of kinds.Codes ∷ At (places.After anchors.Code)
    ∷ At (places.Before anchors.Data) ∷ Of kinds.Datas ∷ At (places.After anchors.Data)
    ∷ Of kinds.Names
    ∷ At places.AfterLast ∷ []

pub stop_at : (i : ℕ) (d : Stop) → stop_view (get_or code_stops i d) ≡ get_or stops i (stop_view d)
stop_at i d = sym (get_or-map stop_view code_stops i d)

module _ (given : Option (List ℕ)) (id : Option (Named Name ℕ)) (fs : List (Field Name ℕ)) where
  abbrev that : AbstractModule (List ℕ)
  that = module_of given id fs

  abbrev PutsAt : Stop → List ℕ → List ℕ → Result (Unit {0}) EncodeError → Type 0
  PutsAt stop now after r = Puts that (pieces_of fs that (stop_view stop)) (StopSound that (stop_view stop)) now after r

  pub next_stop : (k : ℕ) (d : Stop) (before now after : List ℕ) → k < 41 → PutSoFar given id fs k before now → PutsAt (get_or code_stops k d) now after (Ok tt) → PutSoFar given id fs (k + 1) before after
  next_stop k d before now after l h p =
      let there = subst (λ stop. Puts that (pieces_of fs that stop) (StopSound that stop) now after (Ok tt)) (stop_at k d) p in
      one_more given id fs k (stop_view d) before now after l h there.put there.sizes there.sound

  pub all_stops : (k : ℕ) (before now : List ℕ) → 41 ≤ k → PutSoFar given id fs k before now → Puts that (pieces that) (AllByRecursion (StopSound that) stops) before now (Ok tt)
  all_stops k before now l h = record {
    put = all_put given id fs k before now l h;
    sizes = all_sizes given id fs k before now l h;
    sound = all_sound given id fs k before now l h;
    too_large = λ t whole sizes. cc;
  }

  pub no_stop : (k : ℕ) (d : Stop) (now after before last : List ℕ) (e : EncodeError) → k < 41 → PutsAt (get_or code_stops k d) now after (Err e)
      → Puts that (pieces that) (AllByRecursion (StopSound that) stops) before last (Err e)
  no_stop k d now after before last e l p =
      let there = subst (λ stop. Puts that (pieces_of fs that stop) (StopSound that stop) now after (Err e)) (stop_at k d) p in
      record { put = tt; sizes = tt; sound = tt; too_large = λ t whole sizes. one_too_large given id fs k (stop_view d) l (there.too_large t) whole }
