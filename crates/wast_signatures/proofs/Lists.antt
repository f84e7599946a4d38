-- Lists in groups, seen as trees.
use Rattle.std.proofs.Common.{◌≡◌, List, [], ◌∷◌, ◌++◌, map, Some, refl, sym, ◌∙◌, ap}
use Rattle.std.specs.List.{flat_map}
use Rattle.std.proofs.lemmas.List.{map-append}
use Rattle.std.proofs.lemmas.List.Concat.{flat_map-cons}
use Rattle.wast_value_types.specs.Tokens.{SignificantToken}
use Rattle.wast_value_types.specs.Grammar.{Reader, map_reads, seq_reads}
use Rattle.wast_signatures.specs.TypeTree.{Local, Sig}
use Rattle.wast_value_types.specs.ValueTree.{ValType}
use Rattle.wast_signatures.specs.TypeSyntax.{joined, unnamed, as_sig, as_bare}

pub joined_trees : {G X T : Type 0} (tree : X → T) (items : G → List X) (gs : List G) → joined (map (λ g. map tree (items g)) gs) ≡ map tree (flat_map items gs)
joined_trees tree items [] = refl
joined_trees tree items (g ∷ gs) =
    flat_map-cons (λ xs. xs) (map tree (items g)) (map (λ g. map tree (items g)) gs)
    ∙ ap (λ rest. map tree (items g) ++ rest) (joined_trees tree items gs)
    ∙ sym (map-append tree (items g) (flat_map items gs))
    ∙ ap (map tree) (sym (flat_map-cons items g gs))

module _ {N P : Type 0} where
  -- one list of groups
  pub joined_read : {G X T : Type 0} (tree : X → T) (items : G → List X) (gs : List G) (all : List X) (r : Reader N P (List (List T))) (ts us : List (SignificantToken N P)) →
      r ts ≡ Some (map (λ g. map tree (items g)) gs, us) → all ≡ flat_map items gs → map_reads joined r ts ≡ Some (map tree all, us)
  joined_read tree items gs all r ts us e f = rw e (ap (λ v. Some (v, us)) (joined_trees tree items gs ∙ ap (map tree) (sym f)))

  -- two
  both_read : {A : Type 0} (f : List (List A) × List (List (ValType N P)) → Sig N P) (s : Sig N P) (ps : List (List A)) (rs : List (List (ValType N P))) (r : Reader N P (List (List A))) (q : Reader N P (List (List (ValType N P)))) (ts us vs : List (SignificantToken N P)) →
      r ts ≡ Some (ps, us) → q us ≡ Some (rs, vs) → f (ps, rs) ≡ s → map_reads f (seq_reads r (λ _. q)) ts ≡ Some (s, vs)
  both_read f s ps rs r q ts us vs d e g = rw (d, e) (ap (λ v. Some (v, vs)) g)

  abbrev as_one : List (Local N P) → List (ValType N P) → Sig N P
  as_one ps rs = record { params = ps; results = rs }

  pub sig_read : {G H X Y : Type 0} (tree : X → Local N P) (items : G → List X) (gs : List G) (params : List X) (tree2 : Y → ValType N P) (items2 : H → List Y) (hs : List H) (results : List Y)
      (r : Reader N P (List (List (Local N P)))) (q : Reader N P (List (List (ValType N P)))) (ts us vs : List (SignificantToken N P)) →
      r ts ≡ Some (map (λ g. map tree (items g)) gs, us) → q us ≡ Some (map (λ h. map tree2 (items2 h)) hs, vs) → params ≡ flat_map items gs → results ≡ flat_map items2 hs →
      map_reads as_sig (seq_reads r (λ _. q)) ts ≡ Some (as_one (map tree params) (map tree2 results), vs)
  sig_read tree items gs params tree2 items2 hs results r q ts us vs d e f g =
      both_read as_sig (as_one (map tree params) (map tree2 results)) (map (λ g. map tree (items g)) gs) (map (λ h. map tree2 (items2 h)) hs) r q ts us vs d e
      (ap (λ ps. as_one ps (joined (map (λ h. map tree2 (items2 h)) hs))) (joined_trees tree items gs ∙ ap (map tree) (sym f))
      ∙ ap (λ rs. as_one (map tree params) rs) (joined_trees tree2 items2 hs ∙ ap (map tree2) (sym g)))

  pub bare_read : {G H X Y : Type 0} (tree : X → Local N P) (items : G → List Y) (gs : List G) (params : List X) (types : List Y) (tree2 : Y → ValType N P) (items2 : H → List Y) (hs : List H) (results : List Y)
      (r q : Reader N P (List (List (ValType N P)))) (ts us vs : List (SignificantToken N P)) →
      r ts ≡ Some (map (λ g. map tree2 (items g)) gs, us) → q us ≡ Some (map (λ h. map tree2 (items2 h)) hs, vs) → types ≡ flat_map items gs → map tree params ≡ map unnamed (map tree2 types) → results ≡ flat_map items2 hs →
      map_reads as_bare (seq_reads r (λ _. q)) ts ≡ Some (as_one (map tree params) (map tree2 results), vs)
  bare_read tree items gs params types tree2 items2 hs results r q ts us vs d e f k g =
      both_read as_bare (as_one (map tree params) (map tree2 results)) (map (λ g. map tree2 (items g)) gs) (map (λ h. map tree2 (items2 h)) hs) r q ts us vs d e
      (ap (λ ps. as_one (map unnamed ps) (joined (map (λ h. map tree2 (items2 h)) hs))) (joined_trees tree2 items gs ∙ ap (map tree2) (sym f))
      ∙ ap (λ ps. as_one ps (joined (map (λ h. map tree2 (items2 h)) hs))) (sym k)
      ∙ ap (λ rs. as_one (map tree params) rs) (joined_trees tree2 items2 hs ∙ ap (map tree2) (sym g)))
