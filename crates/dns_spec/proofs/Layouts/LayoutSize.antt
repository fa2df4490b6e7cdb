-- The length of a layout.
use Rattle.dns_spec.proofs.Common.{◌≡◌, ◌+◌, List, length, Option, arith, length-append, Octets, ResourceRecord, Header, MessageQuestion, Item, record_tail, layout, size}

pub length-record_tail : (r : ResourceRecord) (d : Octets)
    → length (record_tail r d) ≡ 10 + length d
length-record_tail r d = grind (arith, length-append)

pub length-layout : (h : Header) (q : Option MessageQuestion) (items : List Item)
    → length (layout h q items) ≡ size q items
unfolding layout size
length-layout h q items = grind (arith, length-append)
