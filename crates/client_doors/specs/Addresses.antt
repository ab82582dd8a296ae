-- The bits of an address, after RFC 4291 (2.5.5.2) for one of IPv4.
use Rattle.std.specs.Prelude.{ℕ, List}
use Rattle.std.specs.Int.{w128, from_be_bytes}
use Rattle.std.specs.Net.Addr.{embedded_segments, octets_of}
use Rattle.std.specs.declared.net.ip_addr.IpAddr.{IpAddr}
use Rattle.std.specs.declared.net.ip_addr.IpAddr.TheVariants.{V4, V6}

-- the segments of an address of IPv6, of which one of IPv4 has those of ::ffff:a.b.c.d
abbrev pub segments : IpAddr → List ℕ
segments (V4 ip) = embedded_segments 65535 ip
segments (V6 ip) = ip.segments

-- their octets as one number, the high ones first
abbrev pub bits_of : IpAddr → ℕ
bits_of ip = from_be_bytes w128 (octets_of (segments ip))
