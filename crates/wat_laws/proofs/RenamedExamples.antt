-- Texts by hand that differ by a renaming, and by none.
use Rattle.std.proofs.Common.{◌≡◌, ℕ, List, [], ◌∷◌, refl, ap, arith}
use Rattle.std.specs.Prelude.{codes}
use Rattle.std.specs.Str.{is_utf8, chars}
use Rattle.std.proofs.lemmas.Str.{IsUtf8-from_is_utf8}
use lib.Utf8
use Prim.Native.String.{String}
use Rattle.wast_grammar.specs.Tokens.{Name, Open, Close, Text}
use Rattle.wast_grammar.specs.Significant.{TextToken}
use Rattle.wat_verdict.specs.Alike.{AlikeTexts}
use Rattle.wat_laws.specs.RenamedExamples.{RenamedExamples}
use Rattle.wat_laws.proofs.LexedTexts.{text_tokens, id, word}

-- a function and its export, called so
abbrev exported : (name reference : String) → List TextToken
exported name reference =
    Open 0 ∷ word "module" 1 ∷ Open 8 ∷ word "func" 9 ∷ id name 14 ∷ Close 16
    ∷ Open 18 ∷ word "export" 19 ∷ Text (codes "a") 26 ∷ Open 30 ∷ word "func" 31 ∷ id reference 36 ∷ Close 38 ∷ Close 39 ∷ Close 40 ∷ []

-- two functions
abbrev two : (name other : String) → List TextToken
two name other = Open 0 ∷ word "module" 1 ∷ Open 8 ∷ word "func" 9 ∷ id name 14 ∷ Close 16 ∷ Open 18 ∷ word "func" 19 ∷ id other 24 ∷ Close 26 ∷ Close 27 ∷ []

renamed : AlikeTexts (codes "(module (func $f) (export \"a\" (func $f)))") (codes "(module (func $g) (export \"a\" (func $g)))") (exported "f" "f") (exported "g" "g")
unfolding is_utf8 chars lib.Utf8.encode
renamed = record {
  short = (omega arith, omega arith);
  utf8 = (IsUtf8-from_is_utf8 _ refl, IsUtf8-from_is_utf8 _ refl);
  significant = (text_tokens _ (exported "f" "f") refl refl, text_tokens _ (exported "g" "g") refl refl);
  alike = (tt, (refl, (tt, (refl, (tt, (tt, (tt, (refl, (refl, (tt, (refl, (tt, (tt, (tt, (tt, tt)))))))))))))));
}

parted : AlikeTexts (codes "(module (func $f) (export \"a\" (func $f)))") (codes "(module (func $f) (export \"a\" (func $g)))") (exported "f" "f") (exported "f" "g")
unfolding is_utf8 chars lib.Utf8.encode
parted = record {
  short = (omega arith, omega arith);
  utf8 = (IsUtf8-from_is_utf8 _ refl, IsUtf8-from_is_utf8 _ refl);
  significant = (text_tokens _ (exported "f" "f") refl refl, text_tokens _ (exported "f" "g") refl refl);
  alike = (tt, (refl, (tt, (refl, (tt, (tt, (tt, (refl, (refl, (tt, (refl, (tt, (tt, (tt, (tt, tt)))))))))))))));
}

merged : AlikeTexts (codes "(module (func $f) (func $g))") (codes "(module (func $f) (func $f))") (two "f" "g") (two "f" "f")
unfolding is_utf8 chars lib.Utf8.encode
merged = record {
  short = (omega arith, omega arith);
  utf8 = (IsUtf8-from_is_utf8 _ refl, IsUtf8-from_is_utf8 _ refl);
  significant = (text_tokens _ (two "f" "g") refl refl, text_tokens _ (two "f" "f") refl refl);
  alike = (tt, (refl, (tt, (refl, (tt, (tt, (tt, (refl, (tt, (tt, (tt, tt)))))))))));
}

-- names that differ
abbrev first_byte : Name → ℕ
first_byte ([], generation) = 0
first_byte (c ∷ cs, generation) = c

differ : ◌≡◌ {A = Name} (codes "f", 0) (codes "g", 0) → ⊥
differ e = let same = ap first_byte e in omega (arith, same)

pub examples : RenamedExamples
examples = record {
  renamed = record { tokens = _; others = _; alike = renamed; holds = (((λ e. refl, λ e. refl), tt), (tt, tt)) };
  merged = record { tokens = _; others = _; alike = merged; holds = λ m. differ (m.0.0.1 refl) };
  parted = record { tokens = _; others = _; alike = parted; holds = λ m. differ (m.0.0.0 refl) };
}
