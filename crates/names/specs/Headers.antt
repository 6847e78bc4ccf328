-- The numbers that headers and tags hold, and their names (6, 15, 16, 20, 21, J.2).
use Rattle.std.specs.Prelude.{ℕ, List, [], ◌∷◌, codes}

-- functions of the virtual link layer on BACnet/IP (J.2)
abbrev pub bvll_functions : List (ℕ × List ℕ)
bvll_functions =
    (0, codes "BVLC-Result") ∷
    (1, codes "Write-Broadcast-Distribution-Table") ∷
    (2, codes "Read-Broadcast-Distribution-Table") ∷
    (3, codes "Read-Broadcast-Distribution-Table-Ack") ∷
    (4, codes "Forwarded-NPDU") ∷
    (5, codes "Register-Foreign-Device") ∷
    (6, codes "Read-Foreign-Device-Table") ∷
    (7, codes "Read-Foreign-Device-Table-Ack") ∷
    (8, codes "Delete-Foreign-Device-Table-Entry") ∷
    (9, codes "Distribute-Broadcast-To-Network") ∷
    (10, codes "Original-Unicast-NPDU") ∷
    (11, codes "Original-Broadcast-NPDU") ∷ []

-- codes of a BVLC-Result (J.2.1)
abbrev pub bvll_results : List (ℕ × List ℕ)
bvll_results =
    (0, codes "Successful-completion") ∷
    (16, codes "Write-Broadcast-Distribution-Table-NAK") ∷
    (32, codes "Read-Broadcast-Distribution-Table-NAK") ∷
    (48, codes "Register-Foreign-Device-NAK") ∷
    (64, codes "Read-Foreign-Device-Table-NAK") ∷
    (80, codes "Delete-Foreign-Device-Table-Entry-NAK") ∷
    (96, codes "Distribute-Broadcast-To-Network-NAK") ∷ []

-- network priorities (6.2.2)
abbrev pub network_priorities : List (ℕ × List ℕ)
network_priorities =
    (0, codes "normal-message") ∷
    (1, codes "urgent-message") ∷
    (2, codes "critical-equipment-message") ∷
    (3, codes "life-safety-message") ∷ []

-- types of network layer messages (6.2.4)
abbrev pub network_messages : List (ℕ × List ℕ)
network_messages =
    (0, codes "Who-Is-Router-To-Network") ∷
    (1, codes "I-Am-Router-To-Network") ∷
    (2, codes "I-Could-Be-Router-To-Network") ∷
    (3, codes "Reject-Message-To-Network") ∷
    (4, codes "Router-Busy-To-Network") ∷
    (5, codes "Router-Available-To-Network") ∷
    (6, codes "Initialize-Routing-Table") ∷
    (7, codes "Initialize-Routing-Table-Ack") ∷
    (8, codes "Establish-Connection-To-Network") ∷
    (9, codes "Disconnect-Connection-To-Network") ∷
    (10, codes "Challenge-Request") ∷
    (11, codes "Security-Payload") ∷
    (12, codes "Security-Response") ∷
    (13, codes "Request-Key-Update") ∷
    (14, codes "Update-Key-Set") ∷
    (15, codes "Update-Distribution-Key") ∷
    (16, codes "Request-Master-Key") ∷
    (17, codes "Set-Master-Key") ∷
    (18, codes "What-Is-Network-Number") ∷
    (19, codes "Network-Number-Is") ∷ []

-- types of APDUs (20.1)
abbrev pub pdu_types : List (ℕ × List ℕ)
pdu_types =
    (0, codes "Confirmed-Request") ∷
    (1, codes "Unconfirmed-Request") ∷
    (2, codes "SimpleACK") ∷
    (3, codes "ComplexACK") ∷
    (4, codes "SegmentACK") ∷
    (5, codes "Error") ∷
    (6, codes "Reject") ∷
    (7, codes "Abort") ∷ []

-- confirmed services (21, BACnetConfirmedServiceChoice)
abbrev pub confirmed_services : List (ℕ × List ℕ)
confirmed_services =
    (0, codes "AcknowledgeAlarm") ∷
    (1, codes "ConfirmedCOVNotification") ∷
    (2, codes "ConfirmedEventNotification") ∷
    (3, codes "GetAlarmSummary") ∷
    (4, codes "GetEnrollmentSummary") ∷
    (5, codes "SubscribeCOV") ∷
    (6, codes "AtomicReadFile") ∷
    (7, codes "AtomicWriteFile") ∷
    (8, codes "AddListElement") ∷
    (9, codes "RemoveListElement") ∷
    (10, codes "CreateObject") ∷
    (11, codes "DeleteObject") ∷
    (12, codes "ReadProperty") ∷
    (13, codes "ReadPropertyConditional") ∷
    (14, codes "ReadPropertyMultiple") ∷
    (15, codes "WriteProperty") ∷
    (16, codes "WritePropertyMultiple") ∷
    (17, codes "DeviceCommunicationControl") ∷
    (18, codes "ConfirmedPrivateTransfer") ∷
    (19, codes "ConfirmedTextMessage") ∷
    (20, codes "ReinitializeDevice") ∷
    (21, codes "VT-Open") ∷
    (22, codes "VT-Close") ∷
    (23, codes "VT-Data") ∷
    (24, codes "Authenticate") ∷
    (25, codes "RequestKey") ∷
    (26, codes "ReadRange") ∷
    (27, codes "LifeSafetyOperation") ∷
    (28, codes "SubscribeCOVProperty") ∷
    (29, codes "GetEventInformation") ∷
    (30, codes "SubscribeCOVPropertyMultiple") ∷
    (31, codes "ConfirmedCOVNotificationMultiple") ∷ []

-- unconfirmed services (21, BACnetUnconfirmedServiceChoice)
abbrev pub unconfirmed_services : List (ℕ × List ℕ)
unconfirmed_services =
    (0, codes "I-Am") ∷
    (1, codes "I-Have") ∷
    (2, codes "UnconfirmedCOVNotification") ∷
    (3, codes "UnconfirmedEventNotification") ∷
    (4, codes "UnconfirmedPrivateTransfer") ∷
    (5, codes "UnconfirmedTextMessage") ∷
    (6, codes "TimeSynchronization") ∷
    (7, codes "Who-Has") ∷
    (8, codes "Who-Is") ∷
    (9, codes "UTCTimeSynchronization") ∷
    (10, codes "WriteGroup") ∷
    (11, codes "UnconfirmedCOVNotificationMultiple") ∷ []

-- how many segments a requester takes (20.1.2.4)
abbrev pub max_segments : List (ℕ × List ℕ)
max_segments =
    (0, codes "unspecified") ∷
    (1, codes "2") ∷
    (2, codes "4") ∷
    (3, codes "8") ∷
    (4, codes "16") ∷
    (5, codes "32") ∷
    (6, codes "64") ∷
    (7, codes "more-than-64") ∷ []

-- how many octets an APDU to a requester has at most (20.1.2.5)
abbrev pub max_apdus : List (ℕ × List ℕ)
max_apdus =
    (0, codes "50") ∷
    (1, codes "128") ∷
    (2, codes "206") ∷
    (3, codes "480") ∷
    (4, codes "1024") ∷
    (5, codes "1476") ∷ []

-- what a device can segment (21, BACnetSegmentation)
abbrev pub segmentations : List (ℕ × List ℕ)
segmentations =
    (0, codes "segmented-both") ∷
    (1, codes "segmented-transmit") ∷
    (2, codes "segmented-receive") ∷
    (3, codes "no-segmentation") ∷ []

-- types of application-tagged data (20.2.1.4)
abbrev pub data_types : List (ℕ × List ℕ)
data_types =
    (0, codes "null") ∷
    (1, codes "boolean") ∷
    (2, codes "unsigned") ∷
    (3, codes "signed") ∷
    (4, codes "real") ∷
    (5, codes "double") ∷
    (6, codes "octet-string") ∷
    (7, codes "character-string") ∷
    (8, codes "bit-string") ∷
    (9, codes "enumerated") ∷
    (10, codes "date") ∷
    (11, codes "time") ∷
    (12, codes "object-identifier") ∷ []
