-- The value of a `PacketNumberFilter` in contracts.
use Rattle.recovery_packet_numbers.specs.Filters.{Filter}
use Rattle.recovery_packet_numbers.specs.declared.filter.PacketNumberFilter.TheInside.{Inside}

abbrev pub filter_in : Inside → Filter
filter_in filter = record {
  skip = filter.next_skipped_packet_number;
  last = filter.prev_skipped_packet_number;
  exponent = filter.exponent;
}

abbrev pub filter_back : Filter → Inside
filter_back filter = record {
  next_skipped_packet_number = filter.skip;
  prev_skipped_packet_number = filter.last;
  exponent = filter.exponent;
}
