-- Whether what stands between a client and this server may read a request otherwise than it does
-- (RFC 9112, sections 3.2, 6.3 and 11.2).
use Rattle.std.specs.Prelude.{ℕ, Bool, not, ◌==◌, ◌&&◌, ◌||◌, nat_lt, nat_le, List, codes, length}
use Rattle.std.specs.Char.{is_ascii_alphanumeric}
use Rattle.std.specs.List.{list_any, list_all}
use Rattle.sws_answer.specs.Fields.{Field, is_named, has_field, values_of}

-- a byte of a host or of its port, or one of those that stand round an address and before a port
-- (RFC 3986, section 3.2.2)
abbrev pub is_host_byte : ℕ → Bool
is_host_byte byte =
    is_ascii_alphanumeric byte || list_any (λ other. other == byte) (codes "-._~!$&'()*+,;=%:[]")

-- a digit
abbrev pub is_digit : ℕ → Bool
is_digit byte = nat_le 48 byte && nat_le byte 57

-- a field Host with a byte that no host has (RFC 9112, section 3.2)
abbrev pub is_bad_host_field : Field → Bool
is_bad_host_field field = is_named (codes "host") field && not (list_all is_host_byte field.1)

-- one or more digits
abbrev pub is_number : List ℕ → Bool
is_number value = not (length value == 0) && list_all is_digit value

-- a field Content-Length that is no number (RFC 9110, section 8.6)
abbrev pub is_bad_length_field : Field → Bool
is_bad_length_field field = is_named (codes "content-length") field && not (is_number field.1)

-- a field that no client may send so
abbrev pub is_bad_field : Field → Bool
is_bad_field field = is_bad_host_field field || is_bad_length_field field

-- the length of the content is given twice, or beside a coding that says where it ends
-- (RFC 9112, section 6.3)
abbrev pub is_length_doubtful : List Field → Bool
is_length_doubtful fields =
    let count = length (values_of (codes "content-length") fields) in
    nat_lt 1 count || (count == 1 && has_field (codes "transfer-encoding") fields)

-- the request may be read in two ways
abbrev pub is_ambiguous : List Field → Bool
is_ambiguous fields = list_any is_bad_field fields || is_length_doubtful fields
