-- A hint's place in the binary is where its instruction begins.
use Rattle.std.proofs.Common.{ℕ, zero, suc, ◌≡◌, ◌<◌, ◌+◌, List, [], ◌∷◌, ◌++◌, map, length, drop, replicate, slice_get, Some, None, refl, sym, ap, ◌∙◌, subst, arith, append_assoc, flat_map}
use Rattle.std.proofs.lemmas.Option.{none-some, same_Some}
use Rattle.std.proofs.lemmas.Grind.{flat_map-append}
use Rattle.std.specs.List.{AllByRecursion}
use Rattle.std.specs.Option.{option_flatten}
use Rattle.wasm_encoder_base.specs.Bytes.{sized}
use Rattle.wasm_encoder_base.specs.Instr.{Instr, instr_bytes, expr_bytes}
use Rattle.wasm_encoder_base.specs.Leb.{uleb}
use Rattle.wasm_encoder_code.specs.Body.{body_bytes}
use Rattle.wasm_encoder_code.proofs.Places.{places}
use Rattle.wasm_encoder_sections.specs.Codes.{function_item}
use Rattle.wasm_encoder_custom.specs.Custom.{Custom}
use Rattle.wasm_encoder.specs.Module.{header}
use Rattle.wasm_layout.specs.Section.{SectionKind, Types, Imports, Functions, Tables, Memories, Tags, Globals, Exports, Starts, Elements, DataCount, Hints, Codes, Datas, Names}
use Rattle.wasm_layout.specs.AbstractModule.{AbstractModule, Function}
use Rattle.wasm_layout.specs.Present.{has_any, is_present}
use Rattle.wasm_layout.specs.Layout.{if_there, Section, section, sections, Piece, Known, Free, weave, piece_bytes, pieces, layout, contents_of, imported_count, placed_in}
use Rattle.wasm_layout.specs.IsModule.{IsHint, AreHints}
use Rattle.wasm_layout.specs.Laws.{bodies_bytes, HintPlaces}

-- what stands before a section that is there, and the gaps from it on
pub record Split (xs : List Section) (s : Section) (ys : List Section) (gs : List (List Custom)) : Type 0 where
  pub front : List Piece
  pub gaps : List (List Custom)
  pub is : weave (xs ++ (s ∷ ys)) gs ≡ front ++ (Known s ∷ weave ys gaps)

pub no_gaps : (ys : List Section) → weave ys [] ≡ map Known ys
no_gaps [] = refl
no_gaps (y ∷ ys) = refl

pub split : (xs : List Section) (s : Section) (ys : List Section) (gs : List (List Custom)) → Split xs s ys gs
split [] s ys [] = record { front = []; gaps = []; is = ap (λ v. Known s ∷ v) (sym (no_gaps ys)) }
split [] s ys (g ∷ gs) = record { front = map Free g; gaps = gs; is = refl }
split (x ∷ xs) s ys [] = let r = split xs s ys [] in record { front = Known x ∷ r.front; gaps = r.gaps; is = ap (λ v. Known x ∷ v) (sym (no_gaps (xs ++ (s ∷ ys))) ∙ r.is) }
split (x ∷ xs) s ys (g ∷ gs) =
    let r = split xs s ys gs in
    record { front = map Free g ++ (Known x ∷ r.front); gaps = r.gaps; is = ap (λ v. map Free g ++ (Known x ∷ v)) r.is ∙ sym (append_assoc (map Free g) (Known x ∷ r.front) (Known s ∷ weave ys r.gaps)) }

-- the kinds around those of hints and of codes
abbrev pub before_hints : List SectionKind
before_hints = Types ∷ Imports ∷ Functions ∷ Tables ∷ Memories ∷ Tags ∷ Globals ∷ Exports ∷ Starts ∷ Elements ∷ DataCount ∷ []

abbrev pub behind_codes : List SectionKind
behind_codes = Datas ∷ Names ∷ []

module _ (m : AbstractModule (List ℕ)) where
  abbrev pub slot : SectionKind → List Section
  slot k = if_there (is_present m k) (section m k)

  two_sections : slot Hints ≡ section m Hints ∷ [] → slot Codes ≡ section m Codes ∷ [] → sections m ≡ flat_map slot before_hints ++ (section m Hints ∷ section m Codes ∷ flat_map slot behind_codes)
  two_sections p q =
      flat_map-append slot before_hints (Hints ∷ Codes ∷ behind_codes)
      ∙ (λ i. flat_map slot before_hints ++ (p i ++ (q i ++ flat_map slot behind_codes)))

  record HasTwo : Type 0 where
    before : List ℕ
    between : List ℕ
    after : List ℕ
    is : layout m ≡ before ++ (piece_bytes (Known (section m Hints)) ++ (between ++ (piece_bytes (Known (section m Codes)) ++ after)))

  has_two : slot Hints ≡ section m Hints ∷ [] → slot Codes ≡ section m Codes ∷ [] → HasTwo
  has_two p q =
      let ys = flat_map slot behind_codes in
      let h = section m Hints in
      let c = section m Codes in
      let one = split (flat_map slot before_hints) h (c ∷ ys) m.customs in
      let two = split [] c ys one.gaps in
      let all : pieces m ≡ one.front ++ (Known h ∷ (two.front ++ (Known c ∷ weave ys two.gaps))) =
      ap (λ v. weave v m.customs) (two_sections p q) ∙ one.is ∙ ap (λ v. one.front ++ (Known h ∷ v)) two.is in
      let last = flat_map piece_bytes (weave ys two.gaps) in
      record {
        before = header ++ flat_map piece_bytes one.front;
        between = flat_map piece_bytes two.front;
        after = last;
        is = ap (λ v. header ++ flat_map piece_bytes v) all
            ∙ ap (λ v. header ++ v) (flat_map-append piece_bytes one.front (Known h ∷ (two.front ++ (Known c ∷ weave ys two.gaps)))
            ∙ ap (λ v. flat_map piece_bytes one.front ++ (piece_bytes (Known h) ++ v)) (flat_map-append piece_bytes two.front (Known c ∷ weave ys two.gaps)))
            ∙ sym (append_assoc header (flat_map piece_bytes one.front) (piece_bytes (Known h) ++ (flat_map piece_bytes two.front ++ (piece_bytes (Known c) ++ last))));
      }

all_at : {A : Type 0} (P : A → Type 0) (xs : List A) (n : ℕ) (x : A) → AllByRecursion P xs → slice_get xs n ≡ Some x → P x
all_at P [] n x h e = absurd (none-some _ e)
all_at P (y ∷ ys) zero x h e = subst P (same_Some _ _ e) h.0
all_at P (y ∷ ys) (suc n) x h e = all_at P ys n x h.1 e

item_at : {A : Type 0} (xs : List A) (n : ℕ) → n < length xs → (x : A) × (slice_get xs n ≡ Some x)
item_at [] n h = absurd (omega arith)
item_at (x ∷ xs) zero h = (x, refl)
item_at (x ∷ xs) (suc n) h = item_at xs n (omega arith)

-- a list that has an item is there
there : {A B : Type 0} (xs : List A) (body : B) (n : ℕ) (x : A) → slice_get xs n ≡ Some x → if_there (has_any xs) body ≡ body ∷ []
there [] body n x e = absurd (none-some _ e)
there (y ∷ ys) body n x e = refl

there_around : {A B : Type 0} (xs : List A) (y : A) (ys : List A) (body : B) → if_there (has_any (xs ++ (y ∷ ys))) body ≡ body ∷ []
there_around [] y ys body = refl
there_around (x ∷ xs) y ys body = refl

-- a function that has a body stands among those of the module, behind as many as its number says
record Around (imported : ℕ) (fs : List Function) (n : ℕ) (f : Function) : Type 0 where
  earlier : List Function
  later : List Function
  is : fs ≡ earlier ++ (f ∷ later)
  is_numbered : imported + length earlier ≡ n

around : (fs : List Function) (n : ℕ) (f : Function) → option_flatten (slice_get (map Some fs) n) ≡ Some f → Around 0 fs n f
around [] n f e = absurd (none-some _ e)
around (g ∷ gs) zero f e = record { earlier = []; later = gs; is = ap (λ v. v ∷ gs) (same_Some _ _ e); is_numbered = refl }
around (g ∷ gs) (suc n) f e = let r = around gs n f e in record { earlier = g ∷ r.earlier; later = r.later; is = ap (λ v. g ∷ v) r.is; is_numbered = omega (arith, r.is_numbered) }

around_imports : (k : ℕ) (fs : List Function) (n : ℕ) (f : Function) → option_flatten (slice_get (replicate k None ++ map Some fs) n) ≡ Some f → Around k fs n f
around_imports zero fs n f e = around fs n f e
around_imports (suc k) fs zero f e = absurd (none-some _ e)
around_imports (suc k) fs (suc n) f e = let r = around_imports k fs n f e in record { earlier = r.earlier; later = r.later; is = r.is; is_numbered = omega (arith, r.is_numbered) }

-- the bodies of functions, in bytes
listed_bodies : (fs : List Function) → flat_map function_item (map (λ f. body_bytes f.body) fs) ≡ bodies_bytes fs
listed_bodies [] = refl
listed_bodies (f ∷ fs) = ap (λ v. sized (body_bytes f.body) ++ v) (listed_bodies fs)

same_length : (fs : List Function) → length (map (λ f. body_bytes f.body) fs) ≡ length fs
same_length [] = refl
same_length (f ∷ fs) = ap suc (same_length fs)

code_contents : (m : AbstractModule (List ℕ)) (earlier later : List Function) (f : Function) → m.functions ≡ earlier ++ (f ∷ later) →
    contents_of m Codes ≡ uleb (length m.functions) ++ (bodies_bytes earlier ++ (sized (body_bytes f.body) ++ bodies_bytes later))
code_contents m earlier later f e =
    (λ i. uleb (same_length m.functions i) ++ listed_bodies m.functions i)
    ∙ ap (λ fs. uleb (length m.functions) ++ bodies_bytes fs) e
    ∙ ap (λ v. uleb (length m.functions) ++ v) (flat_map-append (λ g. sized (body_bytes g.body)) earlier (f ∷ later))

record Begins (is : List Instr) (k : ℕ) (i : Instr) : Type 0 where
  rest : List ℕ
  bytes : expr_bytes (drop k is) ≡ instr_bytes i ++ rest

begins : (is : List Instr) (k : ℕ) (i : Instr) → slice_get is k ≡ Some i → Begins is k i
begins [] k i e = absurd (none-some _ e)
begins (j ∷ is) zero i e = record {
  rest = flat_map instr_bytes is ++ 0x0B ∷ [];
  bytes = append_assoc (instr_bytes j) (flat_map instr_bytes is) (0x0B ∷ []) ∙ ap (λ v. instr_bytes v ++ (flat_map instr_bytes is ++ 0x0B ∷ [])) (same_Some _ _ e);
}
begins (j ∷ is) (suc k) i e = let r = begins is k i e in record { rest = r.rest; bytes = r.bytes }

pub hint_places : HintPlaces
hint_places b m j k g h x p q =
    let all = all_at (AreHints m) m.hints j g x.is_module.hints p in
    let fn = all.function in
    let inside = all_at (IsHint fn) g.hints k h all.each q in
    let i = item_at fn.body.instructions h.index inside.index in
    let a = around_imports (imported_count m) m.functions g.function fn all.is_at in
    let two = has_two m (there m.hints (section m Hints) j g p) (ap (λ fs. if_there (has_any fs) (section m Codes)) a.is ∙ there_around a.earlier fn a.later (section m Codes)) in
    let r = begins fn.body.instructions h.index i.0 i.1 in
    record {
      function = fn;
      earlier = a.earlier;
      later = a.later;
      functions = a.is;
      is_numbered = a.is_numbered;
      instruction = i.0;
      is_instruction = i.1;
      before = two.before;
      between = two.between;
      after = two.after;
      sections = x.bytes ∙ two.is;
      lists = ap (λ o. record { function_index = g.function; hints = placed_in o g.hints }) all.is_at;
      bodies = code_contents m a.earlier a.later fn a.is;
      rest = r.rest;
      begins = places fn.body h.index ∙ r.bytes;
    }
