-- A tree stands for one module, and a text that spells one tree means one.
use Rattle.std.proofs.Common.{ℕ, ◌≡◌, Bool, List, Option, sym, ap, ◌∙◌, subst, flat_map}
use Rattle.wast_grammar.specs.Tokens.{Name}
use Rattle.wast_grammar.specs.Spelling.{same_name}
use Rattle.wast_field_syntax.specs.FieldTree.{Content, Fields, Pieces, Module}
use Rattle.wasm_layout.specs.AbstractModule.{AbstractModule}
use Rattle.wast_meant.specs.NamesMeant.{GivenName, given_name}
use Rattle.wast_meant.specs.Meaning.{ContentMeans, Meaning}
use Rattle.wast_meant.specs.Binary.{in_bytes}
use Rattle.wast_meant.specs.Means as worth
use Rattle.wast_meaning.specs.Made.{is_made}
use Rattle.wast_meant.specs.Means.{naming_of, Means, SpellsPieces, Stands}
use Rattle.wast_meant.specs.Laws.{OneMeaning, OneModule, OneTree, OneWorth}

by_content : {N P : Type 0} (eq : N → N → Bool) (made : N → Bool) (naming : ℕ → N) (name : Option (GivenName N)) (c : Content N P) (m n : AbstractModule (GivenName N)) →
    ContentMeans eq made naming name c m → ContentMeans eq made naming name c n → m ≡ n
by_content eq made naming name (Fields fs) m n a b = a.is_meant ∙ sym b.is_meant
by_content eq made naming name (Pieces pieces) m n a b = absurd a

pub one_meaning : OneMeaning
one_meaning naming t m n a b = by_content same_name is_made naming (given_name is_made t.given t.id) t.content m n a b

pub one_module : (Spells : List ℕ → Module Name ℕ → Type 0) → OneTree Spells → OneModule Spells
one_module Spells one text m n a b =
    let same : b.tree ≡ a.tree = one text b.tree a.tree b.spelled a.spelled in
    let other = subst (λ t. Meaning same_name is_made (naming_of t) t b.module_meant) same b.is_meant in
    a.named ∙ ap in_bytes (one_meaning (naming_of a.tree) a.tree a.module_meant b.module_meant a.is_meant other) ∙ sym b.named

abbrev content_of : List (List ℕ) → Content Name ℕ
content_of pieces = Pieces pieces

one_pieces : {a b : List (List ℕ)} → content_of a ≡ content_of b → a ≡ b
one_pieces e = cc

-- pieces stand for no module
no_module : {Z : Type 0} (Spells : List ℕ → Module Name ℕ → Type 0) → OneTree Spells → (text : List ℕ) (m : AbstractModule (List ℕ)) (bytes : List ℕ) → Means Spells text m → SpellsPieces Spells text bytes → Z
no_module Spells one text m bytes a b =
    let same : a.tree ≡ b.tree = one text a.tree b.tree a.spelled b.spelled in
    absurd (subst (λ c. ContentMeans same_name is_made (naming_of a.tree) (given_name is_made a.tree.given a.tree.id) c a.module_meant) (ap (λ t. t.content) same ∙ b.are_content) a.is_meant)

pub one_worth : (Spells : List ℕ → Module Name ℕ → Type 0) → OneTree Spells → OneWorth Spells
one_worth Spells one text (Stands m) (Stands n) a b = ap Stands (one_module Spells one text m n a b)
one_worth Spells one text (Stands m) (worth.Pieces bytes) a b = no_module Spells one text m bytes a b
one_worth Spells one text (worth.Pieces bytes) (Stands n) a b = no_module Spells one text n bytes b a
one_worth Spells one text (worth.Pieces x) (worth.Pieces y) a b =
    let same : a.tree ≡ b.tree = one text a.tree b.tree a.spelled b.spelled in
    let pieces : a.pieces ≡ b.pieces = one_pieces (sym a.are_content ∙ ap (λ t. t.content) same ∙ b.are_content) in
    ap worth.Pieces (a.joined ∙ ap (flat_map (λ piece. piece)) pieces ∙ sym b.joined)
