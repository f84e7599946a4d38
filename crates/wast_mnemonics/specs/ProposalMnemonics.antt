-- How each word of a proposal is written.
use Rattle.std.specs.Prelude.{ℕ, List, codes}
use Rattle.wast_mnemonics.specs.declared.proposal.ProposalWord.{ProposalWord}
use Rattle.wast_mnemonics.specs.declared.proposal.ProposalWord.TheVariants as proposal_words
use Rattle.wast_mnemonics.specs.declared.proposal.PlainProposal.{PlainProposal}
use Rattle.wast_mnemonics.specs.declared.proposal.PlainProposal.TheVariants as plain_proposals
use Rattle.wast_mnemonics.specs.declared.proposal.IndexProposal.{IndexProposal}
use Rattle.wast_mnemonics.specs.declared.proposal.IndexProposal.TheVariants as index_proposals
use Rattle.wast_mnemonics.specs.declared.proposal.IndicesProposal.{IndicesProposal}
use Rattle.wast_mnemonics.specs.declared.proposal.IndicesProposal.TheVariants as indices_proposals
use Rattle.wast_mnemonics.specs.declared.proposal.CastProposal.{CastProposal}
use Rattle.wast_mnemonics.specs.declared.proposal.CastProposal.TheVariants as cast_proposals
use Rattle.wast_mnemonics.specs.declared.proposal.ResumeProposal.{ResumeProposal}
use Rattle.wast_mnemonics.specs.declared.proposal.ResumeProposal.TheVariants as resume_proposals
use Rattle.wast_mnemonics.specs.declared.proposal.OrderedIndexProposal.{OrderedIndexProposal}
use Rattle.wast_mnemonics.specs.declared.proposal.OrderedIndexProposal.TheVariants as ordered_index_proposals
use Rattle.wast_mnemonics.specs.declared.proposal.OrderedOptionalIndexProposal.{OrderedOptionalIndexProposal}
use Rattle.wast_mnemonics.specs.declared.proposal.OrderedOptionalIndexProposal.TheVariants as ordered_optional_index_proposals
use Rattle.wast_mnemonics.specs.declared.proposal.OrderedIndicesProposal.{OrderedIndicesProposal}
use Rattle.wast_mnemonics.specs.declared.proposal.OrderedIndicesProposal.TheVariants as ordered_indices_proposals

abbrev pub plain_proposal_mnemonic : PlainProposal → List ℕ
plain_proposal_mnemonic plain_proposals.Pause = codes "pause"
plain_proposal_mnemonic plain_proposals.RefI31Shared = codes "ref.i31_shared"

abbrev pub index_proposal_mnemonic : IndexProposal → List ℕ
index_proposal_mnemonic index_proposals.ContNew = codes "cont.new"
index_proposal_mnemonic index_proposals.Suspend = codes "suspend"
index_proposal_mnemonic index_proposals.StructNewDesc = codes "struct.new_desc"
index_proposal_mnemonic index_proposals.StructNewDefaultDesc = codes "struct.new_default_desc"
index_proposal_mnemonic index_proposals.RefGetDesc = codes "ref.get_desc"

abbrev pub indices_proposal_mnemonic : IndicesProposal → List ℕ
indices_proposal_mnemonic indices_proposals.ContBind = codes "cont.bind"
indices_proposal_mnemonic indices_proposals.Switch = codes "switch"

abbrev pub cast_proposal_mnemonic : CastProposal → List ℕ
cast_proposal_mnemonic cast_proposals.BrOnCastDescEq = codes "br_on_cast_desc_eq"
cast_proposal_mnemonic cast_proposals.BrOnCastDescEqFail = codes "br_on_cast_desc_eq_fail"

abbrev pub resume_proposal_mnemonic : ResumeProposal → List ℕ
resume_proposal_mnemonic resume_proposals.Resume = codes "resume"
resume_proposal_mnemonic resume_proposals.ResumeThrowRef = codes "resume_throw_ref"

abbrev pub ordered_index_proposal_mnemonic : OrderedIndexProposal → List ℕ
ordered_index_proposal_mnemonic ordered_index_proposals.GlobalAtomicGet = codes "global.atomic.get"
ordered_index_proposal_mnemonic ordered_index_proposals.GlobalAtomicSet = codes "global.atomic.set"
ordered_index_proposal_mnemonic ordered_index_proposals.GlobalAtomicRmwAdd = codes "global.atomic.rmw.add"
ordered_index_proposal_mnemonic ordered_index_proposals.GlobalAtomicRmwSub = codes "global.atomic.rmw.sub"
ordered_index_proposal_mnemonic ordered_index_proposals.GlobalAtomicRmwAnd = codes "global.atomic.rmw.and"
ordered_index_proposal_mnemonic ordered_index_proposals.GlobalAtomicRmwOr = codes "global.atomic.rmw.or"
ordered_index_proposal_mnemonic ordered_index_proposals.GlobalAtomicRmwXor = codes "global.atomic.rmw.xor"
ordered_index_proposal_mnemonic ordered_index_proposals.GlobalAtomicRmwXchg = codes "global.atomic.rmw.xchg"
ordered_index_proposal_mnemonic ordered_index_proposals.GlobalAtomicRmwCmpxchg = codes "global.atomic.rmw.cmpxchg"
ordered_index_proposal_mnemonic ordered_index_proposals.ArrayAtomicGet = codes "array.atomic.get"
ordered_index_proposal_mnemonic ordered_index_proposals.ArrayAtomicGetS = codes "array.atomic.get_s"
ordered_index_proposal_mnemonic ordered_index_proposals.ArrayAtomicGetU = codes "array.atomic.get_u"
ordered_index_proposal_mnemonic ordered_index_proposals.ArrayAtomicSet = codes "array.atomic.set"
ordered_index_proposal_mnemonic ordered_index_proposals.ArrayAtomicRmwAdd = codes "array.atomic.rmw.add"
ordered_index_proposal_mnemonic ordered_index_proposals.ArrayAtomicRmwSub = codes "array.atomic.rmw.sub"
ordered_index_proposal_mnemonic ordered_index_proposals.ArrayAtomicRmwAnd = codes "array.atomic.rmw.and"
ordered_index_proposal_mnemonic ordered_index_proposals.ArrayAtomicRmwOr = codes "array.atomic.rmw.or"
ordered_index_proposal_mnemonic ordered_index_proposals.ArrayAtomicRmwXor = codes "array.atomic.rmw.xor"
ordered_index_proposal_mnemonic ordered_index_proposals.ArrayAtomicRmwXchg = codes "array.atomic.rmw.xchg"
ordered_index_proposal_mnemonic ordered_index_proposals.ArrayAtomicRmwCmpxchg = codes "array.atomic.rmw.cmpxchg"

abbrev pub ordered_optional_index_proposal_mnemonic : OrderedOptionalIndexProposal → List ℕ
ordered_optional_index_proposal_mnemonic ordered_optional_index_proposals.TableAtomicGet = codes "table.atomic.get"
ordered_optional_index_proposal_mnemonic ordered_optional_index_proposals.TableAtomicSet = codes "table.atomic.set"
ordered_optional_index_proposal_mnemonic ordered_optional_index_proposals.TableAtomicRmwXchg = codes "table.atomic.rmw.xchg"
ordered_optional_index_proposal_mnemonic ordered_optional_index_proposals.TableAtomicRmwCmpxchg = codes "table.atomic.rmw.cmpxchg"

abbrev pub ordered_indices_proposal_mnemonic : OrderedIndicesProposal → List ℕ
ordered_indices_proposal_mnemonic ordered_indices_proposals.StructAtomicGet = codes "struct.atomic.get"
ordered_indices_proposal_mnemonic ordered_indices_proposals.StructAtomicGetS = codes "struct.atomic.get_s"
ordered_indices_proposal_mnemonic ordered_indices_proposals.StructAtomicGetU = codes "struct.atomic.get_u"
ordered_indices_proposal_mnemonic ordered_indices_proposals.StructAtomicSet = codes "struct.atomic.set"
ordered_indices_proposal_mnemonic ordered_indices_proposals.StructAtomicRmwAdd = codes "struct.atomic.rmw.add"
ordered_indices_proposal_mnemonic ordered_indices_proposals.StructAtomicRmwSub = codes "struct.atomic.rmw.sub"
ordered_indices_proposal_mnemonic ordered_indices_proposals.StructAtomicRmwAnd = codes "struct.atomic.rmw.and"
ordered_indices_proposal_mnemonic ordered_indices_proposals.StructAtomicRmwOr = codes "struct.atomic.rmw.or"
ordered_indices_proposal_mnemonic ordered_indices_proposals.StructAtomicRmwXor = codes "struct.atomic.rmw.xor"
ordered_indices_proposal_mnemonic ordered_indices_proposals.StructAtomicRmwXchg = codes "struct.atomic.rmw.xchg"
ordered_indices_proposal_mnemonic ordered_indices_proposals.StructAtomicRmwCmpxchg = codes "struct.atomic.rmw.cmpxchg"

abbrev pub proposal_mnemonic : ProposalWord → List ℕ
proposal_mnemonic (proposal_words.Plain word) = plain_proposal_mnemonic word
proposal_mnemonic (proposal_words.Index word) = index_proposal_mnemonic word
proposal_mnemonic (proposal_words.Indices word) = indices_proposal_mnemonic word
proposal_mnemonic proposal_words.MemoryDiscard = codes "memory.discard"
proposal_mnemonic proposal_words.RefCastDescEq = codes "ref.cast_desc_eq"
proposal_mnemonic (proposal_words.Cast word) = cast_proposal_mnemonic word
proposal_mnemonic (proposal_words.Resume word) = resume_proposal_mnemonic word
proposal_mnemonic proposal_words.ResumeThrow = codes "resume_throw"
proposal_mnemonic (proposal_words.OrderedIndex word) = ordered_index_proposal_mnemonic word
proposal_mnemonic (proposal_words.OrderedOptionalIndex word) = ordered_optional_index_proposal_mnemonic word
proposal_mnemonic (proposal_words.OrderedIndices word) = ordered_indices_proposal_mnemonic word
