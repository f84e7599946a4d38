use Rattle.std.proofs.Common.{◌≡◌, ◌+◌, ◌-◌, ◌%◌, slice_index_or, refl}
use denote.Enum.Declared.{tag_of}
use Rattle.wasm_encoder_base.specs.Table.{table}
use Rattle.wasm_encoder_base.specs.Leb.{uleb, leb, digits}
use Rattle.wasm_encoder_base.specs.Uncovered.{uncovered}
use Rattle.wasm_encoder_opcodes.specs.declared.atomic_rmw.AtomicRmwOp.{AtomicRmwOp}
use Rattle.wasm_encoder_opcodes.specs.declared.atomic_rmw.AtomicRmwOp.TheVariants.{I32AtomicRmwAdd}
use Rattle.wasm_encoder_opcodes.specs.contracts.atomic_rmw.AtomicRmwOp.{the_type}
use Rattle.wasm_encoder_opcodes.specs.AtomicRmw.{atomic_rmw_mnemonic}
use Rattle.wast_mnemonics.specs.TextTable.{text_table}
use Rattle.wast_mnemonics.specs.Words.{syntax_at, alignment_at}
use Rattle.wast_mnemonics.specs.declared.alignment.TheConstants.{RMW_BYTES}
use Rattle.wast_mnemonics.proofs.alignment.atomic_rmw_alignment.Goals as goal

bytes : (op : AtomicRmwOp) → slice_index_or RMW_BYTES ((tag_of the_type op + 30 - 30) % 7) 0 ≡ alignment_at (atomic_rmw_mnemonic op)
unfolding syntax_at text_table table uncovered uleb leb digits
bytes I32AtomicRmwAdd = refl
bytes _ = refl

pub returns : goal.returns
returns c = bytes c.args.op
