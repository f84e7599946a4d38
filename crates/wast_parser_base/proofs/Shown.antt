-- Texts built piece by piece.
use Rattle.std.proofs.Common.{◌≡◌, ◌≤◌, ◌+◌, ℕ, List, [], ◌∷◌, ◌++◌, replicate, sym, ap, ◌∙◌, append_assoc, append-nil, arith, subst, take, drop, take-append-drop, codes, Result, Ok, Err, OnOk, is_ok, if◌then◌else◌}
use Rattle.std.specs.Fmt.{decimal}
use Rattle.std.specs.List.{flat_map}
use Rattle.std.specs.Str.{IsUtf8, chars, encode_utf8_all}
use Rattle.std.proofs.lemmas.Grind.{flat_map-append}
use Rattle.std.proofs.lemmas.List.{replicate_more}
use Rattle.std.proofs.lemmas.Str.{chars-append, encodes-append}
use Rattle.wast_parser_base.specs.Snippet.{caret, excerpt, in_four_places, line_at, location, shown, snippet}
use Rattle.wast_lexer.specs.Span.{line_of, column_of}

-- one more character
pub snippet_more : (old between new seen : List ℕ) (c : ℕ)
    → between ≡ old ++ encode_utf8_all (flat_map shown seen) → new ≡ between ++ encode_utf8_all (shown c)
    → new ≡ old ++ encode_utf8_all (flat_map shown (seen ++ c ∷ []))
snippet_more old between new seen c before after =
    let pieces : flat_map shown (seen ++ c ∷ []) ≡ flat_map shown seen ++ shown c =
    flat_map-append shown seen (c ∷ []) ∙ ap (λ l. flat_map shown seen ++ l) (append-nil (shown c)) in
    let spelled : encode_utf8_all (flat_map shown (seen ++ c ∷ [])) ≡ encode_utf8_all (flat_map shown seen) ++ encode_utf8_all (shown c) =
    ap encode_utf8_all pieces ∙ encodes-append (flat_map shown seen) (shown c) in
    after ∙ ap (λ l. l ++ encode_utf8_all (shown c)) before
    ∙ append_assoc old (encode_utf8_all (flat_map shown seen)) (encode_utf8_all (shown c)) ∙ ap (λ l. old ++ l) (sym spelled)

-- all of them
pub snippet_whole : (old new seen line : List ℕ) → seen ≡ chars line
    → new ≡ old ++ encode_utf8_all (flat_map shown seen) → new ≡ old ++ snippet line
unfolding snippet
snippet_whole old new seen line whole built = built ∙ ap (λ cs. old ++ encode_utf8_all (flat_map shown cs)) whole

-- two parts of a line
pub snippet-append : (front back : List ℕ) → IsUtf8 front → snippet (front ++ back) ≡ snippet front ++ snippet back
unfolding snippet
snippet-append front back text =
    ap (λ cs. encode_utf8_all (flat_map shown cs)) (chars-append front back text)
    ∙ ap encode_utf8_all (flat_map-append shown (chars front) (chars back))
    ∙ encodes-append (flat_map shown (chars front)) (flat_map shown (chars back))

-- one more space
pub spaces_more : (old between new : List ℕ) (n : ℕ)
    → between ≡ old ++ replicate n 32 → new ≡ between ++ 32 ∷ [] → new ≡ old ++ replicate (n + 1) 32
spaces_more old between new n before after =
    after ∙ ap (λ l. l ++ 32 ∷ []) before ∙ append_assoc old (replicate n 32) (32 ∷ []) ∙ ap (λ l. old ++ l) (replicate_more n 32)

-- as many as were asked for
pub spaces_whole : (old new : List ℕ) (n count : ℕ) → n ≤ count → count ≤ n → new ≡ old ++ replicate n 32 → new ≡ old ++ replicate count 32
spaces_whole old new n count below above built =
    let same : n ≡ count = omega arith in
    built ∙ ap (λ k. old ++ replicate k 32) same

-- two pieces in turn
pub more : (old between new front back : List ℕ) → between ≡ old ++ front → new ≡ between ++ back → new ≡ old ++ (front ++ back)
more old between new front back before after = after ∙ ap (λ l. l ++ back) before ∙ append_assoc old front back

-- the last piece, which may find no memory
pub pushed : {T E : Type 0} (r : Result T E) (old new piece whole : List ℕ)
    → new ≡ (if is_ok r then old ++ piece else old) → piece ≡ whole → OnOk r (new ≡ old ++ whole)
pushed (Ok x) old new piece whole grown same = grown ∙ ap (λ l. old ++ l) same
pushed (Err e) old new piece whole grown same = tt

-- where a place is, in the grouping of the call that formats it
pub location_pieces : (line column : ℕ)
    → codes "\n     --> <anon>:" ++ (decimal line ++ (codes ":" ++ decimal column)) ≡ location line column
unfolding location
location_pieces line column =
    sym (append_assoc (codes "\n     --> <anon>:" ++ decimal line) (codes ":") (decimal column)
    ∙ append_assoc (codes "\n     --> <anon>:") (decimal line) (codes ":" ++ decimal column))

-- the lines that show a place, in the pieces that the code pushes
pub excerpt_pieces : (old t1 t2 t3 t4 t5 t6 t7 t8 text before after : List ℕ) (offset line column : ℕ)
    → line ≡ line_of text offset → column ≡ column_of text offset
    → IsUtf8 before → before ≡ take column (line_at text offset) → after ≡ drop column (line_at text offset)
    → t1 ≡ old ++ location (line + 1) (column + 1) → t2 ≡ t1 ++ codes "\n      |\n " → t3 ≡ t2 ++ in_four_places (line + 1)
    → t4 ≡ t3 ++ codes " | " → t5 ≡ t4 ++ snippet before → t6 ≡ t5 ++ snippet after → t7 ≡ t6 ++ codes "\n      | " → t8 ≡ t7 ++ caret before
    → t8 ≡ old ++ excerpt text offset
unfolding excerpt
excerpt_pieces old t1 t2 t3 t4 t5 t6 t7 t8 text before after offset line column is_line is_column front is_before is_after e1 e2 e3 e4 e5 e6 e7 e8 =
    let whole : snippet before ++ snippet after ≡ snippet (line_at text offset) =
    sym (snippet-append before after front)
    ∙ ap snippet (ap (λ l. l ++ after) is_before ∙ ap (λ l. take column (line_at text offset) ++ l) is_after
    ∙ take-append-drop column (line_at text offset)) in
    let shown : t6 ≡ t4 ++ snippet (line_at text offset) = more t4 t5 t6 (snippet before) (snippet after) e5 e6 ∙ ap (λ l. t4 ++ l) whole in
    let all = more old t7 t8 _ _ (more old t6 t7 _ _ (more old t4 t6 _ _ (more old t3 t4 _ _ (more old t2 t3 _ _ (more old t1 t2 _ _ e1 e2) e3) e4) shown) e7) e8 in
    subst (λ n. t8 ≡ old ++ (location (n + 1) (column_of text offset + 1) ++ codes "\n      |\n " ++ in_four_places (n + 1) ++ codes " | "
    ++ snippet (line_at text offset) ++ codes "\n      | " ++ caret (take (column_of text offset) (line_at text offset)))) is_line
    (subst (λ m. t8 ≡ old ++ (location (line + 1) (m + 1) ++ codes "\n      |\n " ++ in_four_places (line + 1) ++ codes " | "
    ++ snippet (line_at text offset) ++ codes "\n      | " ++ caret (take m (line_at text offset)))) is_column
    (subst (λ b. t8 ≡ old ++ (location (line + 1) (column + 1) ++ codes "\n      |\n " ++ in_four_places (line + 1) ++ codes " | "
    ++ snippet (line_at text offset) ++ codes "\n      | " ++ caret b)) is_before all))
