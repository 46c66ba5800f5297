-- The limits of the product (their values in code are in src/limits.rt) (own).
use Rattle.std.specs.Prelude.{ℕ}

-- the most source files of a folder
abbrev pub max_sources : ℕ
max_sources = 2000

-- the most bytes of a file, and of `rotor.units`
abbrev pub max_file_bytes : ℕ
max_file_bytes = 1048576

-- the most bytes of all sources together
abbrev pub max_total_bytes : ℕ
max_total_bytes = 8388608

-- the most bytes of an identifier
abbrev pub max_name_bytes : ℕ
max_name_bytes = 255

-- the deepest nesting after a token
abbrev pub max_nesting : ℕ
max_nesting = 256

-- the greatest weight of one site
abbrev pub max_weight : ℕ
max_weight = 65536

-- the greatest sum of weights, the greatest running work and the greatest opened weight
abbrev pub max_work : ℕ
max_work = 4194304

-- the most bytes of a plan
abbrev pub max_plan_bytes : ℕ
max_plan_bytes = 16777216

-- the deepest tree or shape that is built, in levels
abbrev pub max_levels : ℕ
max_levels = 3000

-- the most lines of a batch
abbrev pub max_batch_lines : ℕ
max_batch_lines = 1000
