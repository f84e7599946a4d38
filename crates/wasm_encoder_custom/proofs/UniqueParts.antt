-- Custom sections, fields of producers and hints are told apart by their bytes.
use Rattle.std.proofs.Common.{◌++◌, refl}
use Rattle.wasm_encoder_base.specs.Unique.{Unique, Injective, Any}
use Rattle.wasm_encoder_base.proofs.UniqueBytes.{unique_list, unique_name, unique_sized}
use Rattle.wasm_encoder_base.proofs.UniqueLeb.{unique_uleb}
use Rattle.wasm_encoder_base.proofs.UniqueParts.{unique_pair, unique_via, unique_where, unique_byte, injective_pair, injective_via, injective_where, injective_bytes}
use Rattle.wasm_encoder_custom.specs.BranchHints.{FunctionHints, hint_bytes, function_hints_bytes}
use Rattle.wasm_encoder_custom.specs.Custom.{Custom, custom_body, custom_bytes}
use Rattle.wasm_encoder_custom.specs.Producers.{Producer, producer_bytes, Field, field_bytes}
use Rattle.wasm_encoder_custom.specs.declared.branch_hints.BranchHint.{BranchHint}

injective_custom : Injective Any custom_body
injective_custom =
    injective_where (λ c _. (tt, tt))
    (injective_via {A = Custom} (λ c. (c.name, c.contents)) (λ p. record { name = p.0; contents = p.1 }) (λ c. refl) (injective_pair unique_name injective_bytes))

pub unique_custom : Unique Any custom_bytes
unique_custom = unique_sized injective_custom

unique_producer : Unique Any producer_bytes
unique_producer =
    unique_where (λ p _. (tt, tt))
    (unique_via {A = Producer} (λ p. (p.name, p.version)) (λ p. record { name = p.0; version = p.1 }) (λ p. refl) (unique_pair unique_name unique_name))

pub unique_field : Unique Any field_bytes
unique_field =
    unique_where (λ f _. (tt, tt))
    (unique_via {A = Field} (λ f. (f.name, f.values)) (λ p. record { name = p.0; values = p.1 }) (λ f. refl) (unique_pair unique_name (unique_list unique_producer)))

unique_hint : Unique Any hint_bytes
unique_hint =
    unique_where (λ h _. ((tt, tt), tt))
    (unique_via {A = BranchHint} (λ h. ((h.branch_func_offset, 1), h.branch_hint_value)) (λ p. record { branch_func_offset = p.0.0; branch_hint_value = p.1 }) (λ h. refl) (unique_pair (unique_pair unique_uleb unique_byte) unique_uleb))

pub unique_function_hints : Unique Any function_hints_bytes
unique_function_hints =
    unique_where (λ f _. (tt, tt))
    (unique_via {A = FunctionHints} (λ f. (f.function_index, f.hints)) (λ p. record { function_index = p.0; hints = p.1 }) (λ f. refl) (unique_pair unique_uleb (unique_list unique_hint)))
