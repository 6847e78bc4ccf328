-- Counts and sizes of the profile (5.4, 9.5.6, 12.11, 20.1.2.8).
use Rattle.std.specs.Prelude.{ℕ}

-- how often a request, or a window of segments, is said again (12.11)
abbrev pub NUMBER_OF_APDU_RETRIES : ℕ
NUMBER_OF_APDU_RETRIES = 3

-- the window size that is proposed, and the greatest that is granted, in segments (20.1.2.8)
abbrev pub WINDOW_SIZE : ℕ
WINDOW_SIZE = 4

-- the greatest number of segments of a message (12.11)
abbrev pub MAX_SEGMENTS_ACCEPTED : ℕ
MAX_SEGMENTS_ACCEPTED = 64

-- the greatest number of octets of service data in a message
abbrev pub MAX_SERVICE_DATA_OCTETS : ℕ
MAX_SERVICE_DATA_OCTETS = 16384

-- how many answers a device remembers (5.4.5)
abbrev pub MAX_REMEMBERED : ℕ
MAX_REMEMBERED = 64

-- how many requests a device assembles at a time (5.4.5)
abbrev pub MAX_GATHERINGS : ℕ
MAX_GATHERINGS = 16

-- how many devices a client is bound to (16.10)
abbrev pub MAX_BINDINGS : ℕ
MAX_BINDINGS = 256

-- how many routes a router learns (6.6.3)
abbrev pub MAX_LEARNED_ROUTES : ℕ
MAX_LEARNED_ROUTES = 256

-- how many foreign devices a broadcast manager serves (J.5.2)
abbrev pub MAX_FOREIGN_DEVICES : ℕ
MAX_FOREIGN_DEVICES = 32

-- how many other managers a broadcast manager has (J.4.3)
abbrev pub MAX_PEERS : ℕ
MAX_PEERS = 16

-- how many objects a device has, its Device object not counted
abbrev pub MAX_OBJECTS : ℕ
MAX_OBJECTS = 512

-- how many devices a site has
abbrev pub MAX_DEVICES : ℕ
MAX_DEVICES = 256

-- how many networks a site has
abbrev pub MAX_NETWORKS : ℕ
MAX_NETWORKS = 250

-- the longest text that a property takes, in octets
abbrev pub MAX_TEXT_OCTETS : ℕ
MAX_TEXT_OCTETS = 128

-- the room for a datagram that is received, in octets: one that fills it isn't whole
abbrev pub MAX_DATAGRAM_OCTETS : ℕ
MAX_DATAGRAM_OCTETS = 2048

-- the greatest number of octets of data in a frame on MS/TP (9.3)
abbrev pub MAX_FRAME_DATA_OCTETS : ℕ
MAX_FRAME_DATA_OCTETS = 501

-- the longest name of a station, in octets
abbrev pub MAX_NAME_OCTETS : ℕ
MAX_NAME_OCTETS = 32

-- how many tokens a master node has before it polls for others (9.5.6)
abbrev pub N_POLL : ℕ
N_POLL = 50

-- how often a master node gives a token again that isn't taken (9.5.6)
abbrev pub N_RETRY_TOKEN : ℕ
N_RETRY_TOKEN = 1

-- how many octets show a master node that the token was taken (9.5.6)
abbrev pub N_MIN_OCTETS : ℕ
N_MIN_OCTETS = 4
