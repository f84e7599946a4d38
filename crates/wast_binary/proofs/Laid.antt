-- A module is laid out stop by stop, and where each stop is as it must be, its bytes are its binary.
use Rattle.std.proofs.Common.{◌≡◌, ℕ, ◌+◌, ◌<◌, ◌≤◌, List, ◌++◌, length, filter, take, get_or, Option, sym, ap, ◌∙◌, arith, subst}
use Rattle.std.specs.List.{flat_map, AllByRecursion}
use Rattle.std.proofs.lemmas.List.{flat_map_more, take_all, take_more}
use Rattle.wasm_encoder.specs.Module.{header}
use Rattle.wast_grammar.specs.Tokens.{Name}
use Rattle.wast_grammar.specs.Spelling.{same_name}
use Rattle.wast_parser.specs.Identifiers.{Named}
use Rattle.wast_module_fields.specs.FieldTree.{Field}
use Rattle.wasm_layout.specs.AbstractModule.{AbstractModule, Function}
use Rattle.wasm_layout.specs.IsModule.{IsU32, IsFunction, IsModule}
use Rattle.wasm_layout.specs.Layout.{Piece, contents, piece_bytes, pieces}
use Rattle.wasm_layout.specs.Lays.{PiecesFit, Fits, Lays}
use Rattle.wasm_layout.specs.Section.{order}
use Rattle.wast_customs.specs.CustomTree.{BeforeFirst}
use Rattle.wast_meant.specs.CustomsMeant.{Stop, At, stops}
use Rattle.wast_meant.specs.NamesMeant.{GivenName, given_name}
use Rattle.wast_meant.specs.Meaning.{meant}
use Rattle.wast_meant.specs.Binary.{bytes_of}
use Rattle.wast_meaning.specs.Made.{is_made}
use Rattle.wast_meant.proofs.Renamed.{same_sections, renamed}
use Rattle.wast_meant_laws.proofs.AtStops.{laid_out, gap_count}
use Rattle.wast_encode_laws.proofs.Hints.{hint_functions}
use Rattle.wast_encode_laws.proofs.NameMaps.{are_names}
use Rattle.wast_section_items.specs.Sound.{TypeSound, BodySound}
use Rattle.wast_binary.specs.Can.{CanEncode}
use Rattle.wast_binary.specs.Parts.{module_of, pieces_of, StopSound}
use Rattle.wast_binary.specs.Weight.{AreFew}
use Rattle.wast_binary.proofs.FewNames.{names_fit, bodies_fit}
use Rattle.wast_name_maps.proofs.Joining.{flat_of}
use Rattle.wast_binary.proofs.Lists.{all_at, all_more, all_flat, flat_all, all_both}

abbrev pub first_stop : Stop
first_stop = At BeforeFirst

module _ (given : Option (List ℕ)) (id : Option (Named Name ℕ)) (fs : List (Field Name ℕ)) where
  abbrev name : Option (GivenName Name)
  name = given_name is_made given id

  abbrev that : AbstractModule (List ℕ)
  that = module_of given id fs

  abbrev at : Stop → List Piece
  at stop = pieces_of fs that stop

  abbrev stop_bytes : Stop → List ℕ
  stop_bytes stop = flat_map piece_bytes (at stop)

  laid : pieces that ≡ flat_map at stops
  laid = laid_out same_name is_made name fs

  pub bytes_at_stops : flat_map piece_bytes (pieces that) ≡ flat_map stop_bytes stops
  bytes_at_stops = ap (flat_map piece_bytes) laid ∙ sym (flat_of piece_bytes at stops)

  -- SIZES, of all pieces and stop by stop
  abbrev Fit : Piece → Type 0
  Fit p = IsU32 (length (contents p))

  pub sizes_together : AllByRecursion (λ stop. PiecesFit (at stop)) stops → PiecesFit (pieces that)
  sizes_together h = subst PiecesFit (sym laid) (all_flat Fit at stops h)

  pub sizes_apart : PiecesFit (pieces that) → AllByRecursion (λ stop. PiecesFit (at stop)) stops
  sizes_apart h = flat_all Fit at stops (subst PiecesFit laid h)

  pub size_at : Fits that → (k : ℕ) → k < 41 → PiecesFit (at (get_or stops k first_stop))
  size_at fits k l = all_at (λ stop. PiecesFit (at stop)) stops k first_stop l (sizes_apart fits.sizes)

  -- SO FAR
  pub record PutSoFar (k : ℕ) (before now : List ℕ) : Type 0 where
    pub put : now ≡ before ++ flat_map stop_bytes (take k stops)
    pub sizes : AllByRecursion (λ stop. PiecesFit (at stop)) (take k stops)
    pub sound : AllByRecursion (StopSound that) (take k stops)

  pub one_more : (k : ℕ) (d : Stop) (before now after : List ℕ) → k < 41 → PutSoFar k before now
      → after ≡ now ++ stop_bytes (get_or stops k d) → PiecesFit (at (get_or stops k d)) → StopSound that (get_or stops k d) → PutSoFar (k + 1) before after
  one_more k d before now after l h e sizes sound = record {
    put = e ∙ ap (λ v. v ++ stop_bytes (get_or stops k d)) h.put ∙ flat_map_more stop_bytes before (take k stops) (get_or stops k d)
        ∙ ap (λ v. before ++ flat_map stop_bytes v) (sym (take_more stops k d l));
    sizes = all_more (λ stop. PiecesFit (at stop)) stops k d l h.sizes sizes;
    sound = all_more (StopSound that) stops k d l h.sound sound;
  }

  pub all_put : (k : ℕ) (before now : List ℕ) → 41 ≤ k → PutSoFar k before now → now ≡ before ++ flat_map piece_bytes (pieces that)
  all_put k before now l h = h.put ∙ ap (λ v. before ++ v) (ap (flat_map stop_bytes) (take_all k stops l) ∙ sym bytes_at_stops)

  pub all_sizes : (k : ℕ) (before now : List ℕ) → 41 ≤ k → PutSoFar k before now → PiecesFit (pieces that)
  all_sizes k before now l h = sizes_together (subst (AllByRecursion (λ stop. PiecesFit (at stop))) (take_all k stops l) h.sizes)

  pub all_sound : (k : ℕ) (before now : List ℕ) → 41 ≤ k → PutSoFar k before now → AllByRecursion (StopSound that) stops
  all_sound k before now l h = subst (AllByRecursion (StopSound that)) (take_all k stops l) h.sound

  -- what is too large at one stop is too large in all
  pub one_too_large : (k : ℕ) (d : Stop) → k < 41 → (Fits that → PiecesFit (at (get_or stops k d)) → ⊥) → Fits that → ⊥
  one_too_large k d l h fits = h fits (all_at (λ stop. PiecesFit (at stop)) stops k d l (sizes_apart fits.sizes))

  -- THE MODULE
  module _ (can : CanEncode fs) (few : AreFew fs) (sound : AllByRecursion (StopSound that) stops) where
    sound_at : (k : ℕ) → k < 41 → StopSound that (get_or stops k first_stop)
    sound_at k l = all_at (StopSound that) stops k first_stop l sound

    function_sound : (f : Function) → TypeSound f → BodySound f → IsFunction f
    function_sound f t b = record { type_index = t; locals = b.0; body = b.1 }

    module_sound : IsModule (meant same_name is_made name fs)
    module_sound = record {
      types = sound_at 2 (omega arith);
      imports = sound_at 5 (omega arith);
      functions = all_both TypeSound BodySound IsFunction function_sound that.functions (sound_at 8 (omega arith)) (sound_at 34 (omega arith)).0;
      tables = sound_at 11 (omega arith);
      memories = sound_at 14 (omega arith);
      tags = sound_at 17 (omega arith);
      globals = sound_at 20 (omega arith);
      exports = sound_at 23 (omega arith);
      start = sound_at 26 (omega arith);
      elements = sound_at 29 (omega arith);
      datas = sound_at 37 (omega arith);
      names = are_names same_name is_made fs name (names_fit same_name is_made fs few can.settled);
      hint_functions = hint_functions fs (bodies_fit fs few);
      hints = can.hints name (bodies_fit fs few);
      gaps = gap_count same_name is_made name fs ∙ (λ i. length (filter (λ k. same_sections bytes_of (meant same_name is_made name fs) k i) order) + 1);
    }

    pub lays : (binary : List ℕ) → PiecesFit (pieces that) → binary ≡ header ++ flat_map piece_bytes (pieces that) → Lays binary that
    lays binary sizes e = record {
      is_module = renamed bytes_of (meant same_name is_made name fs) module_sound;
      fits = record { sizes = sizes; locals = (sound_at 34 (omega arith)).1 };
      bytes = e;
    }
