-- What stands at each stop of a module.
use Rattle.std.specs.Prelude.{Bool, true, not, List, map}
use Rattle.wasm_encoder_custom.specs.Custom.{Custom}
use Rattle.wast_customs.specs.CustomTree.{CustomPlace}
use Rattle.wasm_layout.specs.Section.{SectionKind, Names, same_section}
use Rattle.wasm_layout.specs.Layout.{if_there, Section, Piece, Known, Free}
use Rattle.wast_meant.specs.CustomsMeant.{Stop, At, Of}

-- at a place its custom sections, else the section of the kind where it is there
abbrev pub stop_pieces : (CustomPlace → List Custom) → (SectionKind → Bool) → (SectionKind → Section) → Stop → List Piece
stop_pieces at is_there section (At place) = map Free (at place)
stop_pieces at is_there section (Of kind) = map Known (if_there (is_there kind) (section kind))

-- a piece that isn't the section of names
abbrev pub is_unnamed : Piece → Bool
is_unnamed (Known s) = not (same_section s.kind Names)
is_unnamed (Free c) = true
