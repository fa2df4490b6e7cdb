-- The faults of a zone file, and the code of each.
use Rattle.std.specs.Prelude.{ℕ}

-- Why a zone file gives no records.
pub data FileFault : Type 0 where
  -- an octet that is not allowed
  bad_octet : FileFault
  -- a backslash that begins no escape
  bad_escape : FileFault
  -- a quoted string that does not end on its line
  unended_string : FileFault
  -- a nested parenthesis, a closing one without an opening one, or one still open at the end of
  -- the text
  bad_parenthesis : FileFault
  -- a directive other than `$ORIGIN` and `$TTL`
  unknown_directive : FileFault
  -- invalid arguments of a directive
  directive_words : FileFault
  -- an invalid owner
  bad_owner : FileFault
  -- a record without an owner, if no earlier record has one
  no_owner : FileFault
  -- a TTL that is not a number up to 2147483647
  bad_ttl : FileFault
  -- a class other than IN
  other_class : FileFault
  -- a missing or unknown type, or a type that no zone contains
  bad_type : FileFault
  -- a record without a TTL, if none is in force
  no_ttl : FileFault
  -- data that is invalid for its type
  bad_data : FileFault
  -- more than 100,000 records
  too_many_records : FileFault
  -- more than 16,777,216 octets
  too_long : FileFault
  -- the file can't be read
  unreadable : FileFault
  -- allocation failed
  no_memory : FileFault

-- The number in a fault's code: 7 for `R07`.
abbrev pub fault_code : FileFault → ℕ
fault_code bad_octet = 1
fault_code bad_escape = 2
fault_code unended_string = 3
fault_code bad_parenthesis = 4
fault_code unknown_directive = 5
fault_code directive_words = 6
fault_code bad_owner = 7
fault_code no_owner = 8
fault_code bad_ttl = 9
fault_code other_class = 10
fault_code bad_type = 11
fault_code no_ttl = 12
fault_code bad_data = 13
fault_code too_many_records = 14
fault_code too_long = 15
fault_code unreadable = 16
fault_code no_memory = 17
