use Rattle.wasm_encoder_opcodes.proofs.InTable.{compare_listed, numeric_listed, convert_listed, vector_listed, vector_narrow_listed, vector_wide_listed, vector_float_listed, access_listed, atomic_listed, atomic_rmw_listed}
use Rattle.wasm_encoder_opcodes.proofs.laws.listed.Goals as goal

pub returns-clause-compare : goal.returns-clause-compare
returns-clause-compare c = compare_listed

pub returns-clause-numeric : goal.returns-clause-numeric
returns-clause-numeric c = numeric_listed

pub returns-clause-convert : goal.returns-clause-convert
returns-clause-convert c = convert_listed

pub returns-clause-vector : goal.returns-clause-vector
returns-clause-vector c = vector_listed

pub returns-clause-vector_narrow : goal.returns-clause-vector_narrow
returns-clause-vector_narrow c = vector_narrow_listed

pub returns-clause-vector_wide : goal.returns-clause-vector_wide
returns-clause-vector_wide c = vector_wide_listed

pub returns-clause-vector_float : goal.returns-clause-vector_float
returns-clause-vector_float c = vector_float_listed

pub returns-clause-access : goal.returns-clause-access
returns-clause-access c = access_listed

pub returns-clause-atomic : goal.returns-clause-atomic
returns-clause-atomic c = atomic_listed

pub returns-clause-atomic_rmw : goal.returns-clause-atomic_rmw
returns-clause-atomic_rmw c = atomic_rmw_listed
