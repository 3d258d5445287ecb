-- Numbers of Linux's rules: probabilities in units of 2^-56, times in ticks of 64 ns, and C's unsigned arithmetic.
use Rattle.std.specs.Prelude.{ℕ, ◌+◌, ◌-◌, ◌*◌, ◌/◌, ◌%◌, ◌^◌}

-- the probability 1 (MAX_PROB)
abbrev pub one : ℕ
one = 2 ^ 56 - 1

-- a moment or count that is not set (DTIME_INVALID, DQCOUNT_INVALID)
abbrev pub unset : ℕ
unset = 2 ^ 64 - 1

-- the bytes of a measurement of the departure rate (QUEUE_THRESHOLD)
abbrev pub threshold : ℕ
threshold = 16384

-- the burst allowance after a restart: 150 ms (pie_vars_init)
abbrev pub full_burst : ℕ
full_burst = 150_000_000 / 64

-- the delay above which the probability grows by another 0.02: 250 ms (pie_calculate_probability)
abbrev pub long_delay : ℕ
long_delay = 250_000_000 / 64

-- nanoseconds in ticks (psched_get_time)
abbrev pub ticks : ℕ → ℕ
ticks nanoseconds = nanoseconds / 64

-- a sum of C's type u32
abbrev pub sum_32 : ℕ → ℕ → ℕ
sum_32 a b = (a + b) % 2 ^ 32

-- a sum, a difference and a product of C's type u64
abbrev pub sum_64 : ℕ → ℕ → ℕ
sum_64 a b = (a + b) % 2 ^ 64

abbrev pub difference_64 : ℕ → ℕ → ℕ
difference_64 a b = (a + (2 ^ 64 - b)) % 2 ^ 64

abbrev pub product_64 : ℕ → ℕ → ℕ
product_64 a b = (a * b) % 2 ^ 64

-- a number of bytes in units of 1/256 byte, in 32 bits: it wraps at 16 MiB (`<< PIE_SCALE`)
abbrev pub scaled : ℕ → ℕ
scaled bytes = bytes % 2 ^ 24 * 256
