-- The laws of numbers, names and lists that the crate's law functions prove.
use Rattle.std.specs.Prelude.{ℕ, ◌≡◌, List, [], ◌∷◌, ◌++◌, negsuc, codes}
use Rattle.std.specs.List.{AllByRecursion}
use Rattle.wasm_encoder_bytes.specs.Leb.{uleb, sleb}
use Rattle.wasm_encoder_bytes.specs.Decodes.{IsShortest, unsigned_of, signed_of}
use Rattle.wasm_encoder_bytes.specs.Bytes.{counted, sized}
use Rattle.wasm_encoder_bytes.specs.Lists.{listed, no_items, with_item}
use Rattle.wasm_encoder_bytes.specs.Unique.{Unique, Any}

-- `spell` gives the byte list that decodes to the number and than which no shorter one does, and no other list is that.
pub record IsTheShortest {A : Type 0} (decode : List ℕ → A) (spell : A → List ℕ) : Type 0 where
  pub shortest : (n : A) → IsShortest decode n (spell n)
  pub only : (n : A) (bytes : List ℕ) → IsShortest decode n bytes → bytes ≡ spell n

abbrev pub ShortestUnsigned : Type 0
ShortestUnsigned = IsTheShortest unsigned_of uleb

abbrev pub ShortestSigned : Type 0
ShortestSigned = IsTheShortest signed_of sleb

-- Numbers, names and lists of numbers are told apart by their bytes, whatever follows.
abbrev pub OneUnsigned : Type 0
OneUnsigned = Unique Any uleb

abbrev pub OneSigned : Type 0
OneSigned = Unique Any sleb

abbrev pub OneName : Type 0
OneName = Unique Any sized

abbrev pub OneList : Type 0
OneList = Unique (AllByRecursion Any) (counted uleb)

-- A list that is built item by item is the list of these items. Its items are given by their bytes.
pub record IsBuiltByItems : Type 0 where
  pub none : no_items ≡ listed (λ (bytes : List ℕ). bytes) []
  pub one_more : (items : List (List ℕ)) (item : List ℕ) → with_item (listed (λ bytes. bytes) items) item ≡ listed (λ bytes. bytes) (items ++ item ∷ [])

-- Spellings by hand. `negsuc 123455` is -123456.
pub record SpellingExamples : Type 0 where
  pub unsigned : uleb 624485 ≡ 0xE5 ∷ 0x8E ∷ 0x26 ∷ []
  pub signed : sleb (negsuc 123455) ≡ 0xC0 ∷ 0xBB ∷ 0x78 ∷ []
  pub name : sized (codes "abc") ≡ 0x03 ∷ 0x61 ∷ 0x62 ∷ 0x63 ∷ []
  pub list : counted uleb (1 ∷ 128 ∷ []) ≡ 0x02 ∷ 0x01 ∷ 0x80 ∷ 0x01 ∷ []
