-- Units and limits: spans in nanoseconds, numbers on the wire, counters of 64 bits and less.
use Rattle.std.specs.Prelude.{ℕ, ◌-◌, ◌*◌, ◌^◌}

-- the nanoseconds of a microsecond: `25 * microseconds`
abbrev pub microseconds : ℕ
microseconds = 10 ^ 3

-- the nanoseconds of a millisecond
abbrev pub milliseconds : ℕ
milliseconds = 10 ^ 6

-- the nanoseconds of a second
abbrev pub seconds : ℕ
seconds = 10 ^ 9

-- the timer granularity (kGranularity of RFC 9002, 6.1.2), and so the local min_ack_delay
abbrev pub timer_granularity : ℕ
timer_granularity = milliseconds

-- the max_ack_delay of a peer that has not stated another one (RFC 9000, 18.2)
abbrev pub assumed_ack_delay : ℕ
assumed_ack_delay = 25 * milliseconds

-- packet numbers, sequence numbers of connection IDs and variable-length integers are below it (RFC 9000, 12.3, 19.15
-- and 16)
abbrev pub number_limit : ℕ
number_limit = 2 ^ 62

-- every 64-bit number is below it: bytes, packets, and times in nanoseconds
abbrev pub u64_limit : ℕ
u64_limit = 2 ^ 64

-- the largest 64-bit number, at which counters saturate
abbrev pub largest_u64 : ℕ
largest_u64 = u64_limit - 1

-- the last time of the clock, in nanoseconds
abbrev pub last_time : ℕ
last_time = u64_limit - 1

-- every 32-bit number is below it
abbrev pub u32_limit : ℕ
u32_limit = 2 ^ 32

-- the largest 32-bit number, at which counters saturate
abbrev pub largest_u32 : ℕ
largest_u32 = u32_limit - 1

-- every 16-bit number is below it, such as the size of a datagram in bytes (RFC 9000, 18.2)
abbrev pub u16_limit : ℕ
u16_limit = 2 ^ 16

-- every byte is below it
abbrev pub byte_limit : ℕ
byte_limit = 2 ^ 8
